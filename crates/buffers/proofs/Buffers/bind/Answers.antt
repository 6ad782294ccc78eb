use Rattle.std.proofs.Common.{rules, ◌≡◌, refl}
use Rattle.refusal.specs.Refusals.{number_in}
use Rattle.buffers.proofs.Binding.{bind_last, bind_full, bind_array_law, bind_element_law, bind_other}
use Rattle.buffers.proofs.Buffers.bind.Goals as goal

pub returns-then-name-ge-LAST_NAME : goal.returns-then-name-ge-LAST_NAME
returns-then-name-ge-LAST_NAME c = bind_last _ (c.is_sound.ensures.decides.yes c.if-not-is_sound.false) _ _ c.if-name-ge-LAST_NAME.true

pub returns-in_err-make_name : goal.returns-in_err-make_name
returns-in_err-make_name c =
    let e : number_in c.from_residual.result ≡ 4 = search rules in
    let made = c.in_err-make_name.ensures.made in
    rw (e, made.full refl)
    (bind_full _ (c.is_sound.ensures.decides.yes c.if-not-is_sound.false) _ _ c.if-name-ge-LAST_NAME.false _ _ made refl)

pub returns-in_err-try_from : goal.returns-in_err-try_from
returns-in_err-try_from c =
    let e : number_in c.from_residual-in_err-try_from.result ≡ 0x0500 = search rules in
    rw e
    (bind_other _ (c.is_sound.ensures.decides.yes c.if-not-is_sound.false) _ _ c.if-name-ge-LAST_NAME.false _ _ c.in_ok-make_name.ensures.made refl _ c.in_err-try_from.ensures)

pub returns-in-Array : goal.returns-in-Array
returns-in-Array c =
    bind_array_law _ (c.is_sound.ensures.decides.yes c.if-not-is_sound.false) _ _ c.if-name-ge-LAST_NAME.false _ _ c.in_ok-make_name.ensures.made refl
    (rw c.in-Array.is at c.in_ok-try_from.ensures)

pub returns-in-Element : goal.returns-in-Element
returns-in-Element c =
    bind_element_law _ (c.is_sound.ensures.decides.yes c.if-not-is_sound.false) _ _ c.if-name-ge-LAST_NAME.false _ _ c.in_ok-make_name.ensures.made refl
    (rw c.in-Element.is at c.in_ok-try_from.ensures)
