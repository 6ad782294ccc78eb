-- The bytes of an index of a type, from the type that a code decodes to. Assumes nothing.
use Rattle.std.proofs.Common.{ℕ, ◌≡◌, Ok, Err, sym, ap, ◌∙◌, Result, refl}
use Rattle.refusal.specs.EnumerantsCode.{Decodes, found}
use Rattle.refusal.specs.declared.UnknownEnum.{UnknownEnum}
use Rattle.vertex.specs.Index.{index_width, index_types, type_width}
use Rattle.vertex.specs.declared.IndexType.{IndexType}
use Rattle.vertex.proofs.Sources.{width_or, width_looked}

pub known_type : (ty : ℕ) (k : IndexType) → Decodes index_types ty (Ok k) → index_width ty ≡ type_width k
known_type ty k d = width_looked ty ∙ ap width_or (sym d)

pub unknown_type : (ty : ℕ) (e : UnknownEnum) → Decodes index_types ty (Err e) → index_width ty ≡ 0
unknown_type ty e d = width_looked ty ∙ ap width_or (sym d)
