use Rattle.std.proofs.Common.{arith, ◌≡◌}
use Rattle.std.proofs.lemmas.Grind.{common_steps}
use Rattle.std.specs.Prelude.{map}
use Rattle.pipeline.specs.Enums.{compare_funcs, blend_factors, cull_modes, front_faces, fog_modes}
use Rattle.station.specs.Kept.{unit_from, settings_from}
use Rattle.station.proofs.Parts.{chosen}
use Rattle.station.proofs.PipelineFromKeptSettings.from.Goals as goal

pub returns : goal.returns
unfolding settings_from
returns c =
    let us : c.map-units.result ≡ map unit_from c.args.k.units = grind (arith, common_steps) in
    let k = c.args.k in
    rw (
      us,
      chosen compare_funcs k.depth_func _ _ c.unwrap_or.ensures c.try_from.ensures,
      chosen compare_funcs k.alpha_func _ _ c.unwrap_or-2.ensures c.try_from-2.ensures,
      chosen blend_factors k.src _ _ c.unwrap_or-3.ensures c.try_from-3.ensures,
      chosen blend_factors k.dst _ _ c.unwrap_or-4.ensures c.try_from-4.ensures,
      chosen cull_modes k.cull_mode _ _ c.unwrap_or-5.ensures c.try_from-5.ensures,
      chosen front_faces k.front_face _ _ c.unwrap_or-6.ensures c.try_from-6.ensures,
      chosen fog_modes k.fog_mode _ _ c.unwrap_or-7.ensures c.try_from-7.ensures,
    )
