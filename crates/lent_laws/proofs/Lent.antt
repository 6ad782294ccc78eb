-- A thin function over a stack that the caller lends:
--     fn f(stack: &mut MatrixStack) -> u32 { let a = g(*stack); *stack = a.stack; a.number }
-- The borrow is opened, the stack is copied out of it and passed to g, the answer's stack is stored, and the borrow is closed at it.
--     function g               its code, over the key of g
--     callee_clauses answer    the contract of g: it gives `answer`
--     Shown answer c           what the contract c says of f holds, where number and last stack are those of `answer`
--     lent_meets               f meets each such contract, if g meets its own
-- Assumes nothing.
use mathlib.Core.Path.{◌≡◌, refl, ap, subst⁻¹}
use Prim.Native.Nat.{ℕ, ◌<◌, ◌^◌}
use mathlib.Core.List.{[], ◌∷◌, List}
use seplogic.Ra.Ura.{Ura}
use base.Fraction.{full_share}
use mir.Syntax.{Fn, Callee as Key, local, value_local, ty_int, ty_ref, mut, named, place, deref, field, copy, rv_opd, assign, call, seq, return, w32}
use mir.Val.{Val, vint, vptr}
use base.Logic.{SProp, ent, sep, emp, via, comm∗, mono_l, emp∗, fst∗, snd∗, ex_e, id⊢}
use base.Fml.{GName, Lft, Share, ftrue, fat, flft, fobs, fbor}
use prog.Wp.{Calls, Loops, WpFn, Tables}
use types.Logic.{Logic, sem}
use contract.Lifetimes.{Lfts}
use contract.Monad.{fact}
use types.Kit.{‵, raw, ◌⊛◌, some, later, ◌$◌, ◌∵◌, !, qed, by, move, keep, drop, use1, split, join, pick}
use types.Kit.{rewrite, fsplit, fsplit3, fjoin, fjoin3, feq_i, suffices, frame, await, done}
use types.Run.{look, look_raw, init, forget, stop, hop, fld, from, load, of_opd, store_raw, and_then, no_more, assigns}
use types.Run.{land, returns, enter, alloc1, alloc0, params1, pass1, pass0, free1, free0}
use types.Part.{whole, sub, look_in}
use types.SemTy.{Body}
use sound.WpLaws.{FmC, fm_of, WpFn-mono}
use denote.RattleType.{owns}
use denote.Laws.{Is, shows}
use denote.Memory.{mem, pointee}
use denote.Plain.{uint_Makes}
use denote.Builtin.{u32}
use denote.Ref.{MutBor, MutRef, mut_vals, mut_Tells}
use denote.Signature.{plain}
use denote.Steps.{only, opens, closes, owned, peeks, heard, nothing}
use denote.Struct.Steps.{spelt}
use denote.Struct.Laws as LL
use denote.Triple.Entry.{Args, on_entry}
use denote.Triple.Spec.{Meets, triple_of}
use denote.Triple.Statement.{Contract, Triple}
use denote.Triple.Call.{calls_at}
use denote.Triple.Clauses.{Clauses, at_exit, closing, ensured, lasts}
use denote.Triple.Walked.{Stays, stay_ref, walk_of, Goes-ref, Walks, ends_at, walked, walk_Meets}
use Rattle.stack.specs.declared.MatrixStack.{MatrixStack}
use Rattle.lent_stack.specs.declared.StackAnswer.{StackAnswer}
use Rattle.stack.specs.contracts.MatrixStack as T
use Rattle.stack.proofs.MatrixStack.TheLaws as T'
use Rattle.lent_stack.specs.contracts.StackAnswer as S
use Rattle.lent_stack.proofs.StackAnswer.TheLaws as S'
use Rattle.lent_stack.specs.contracts.answer_push as callee
use Rattle.lent_stack.specs.contracts.push as this

abbrev pub function : Key → Fn
function g = record {
  lifetimes = 1;
  outlives = [];
  ty_params = [];
  givens = 0;
  params = 1;
  locals = local (ty_int w32) value_local ∷ local (ty_ref (named 0) mut (pointee (T.the_row).written)) value_local ∷ local S'.mir value_local ∷ local T'.mir value_local
      ∷ local T'.mir value_local ∷ [];
  body = seq (assign (place 3 []) (rv_opd (copy (place 1 (deref T'.mir ∷ [])))))
      (seq (call g (copy (place 3 []) ∷ []) (place 2 []))
      (seq (assign (place 4 []) (rv_opd (copy (place 2 (field 1 ∷ [])))))
      (seq (assign (place 1 (deref T'.mir ∷ [])) (rv_opd (copy (place 4 []))))
      (seq (assign (place 0 []) (rv_opd (copy (place 2 (field 0 ∷ []))))) return))));
}

module _ {M : Type 1} (𝓤 : Ura M) (answer : MatrixStack → StackAnswer) where
  abbrev callee_clauses : Clauses 𝓤 callee.ended
  callee_clauses κs a = record { ghost = Unit {0}; requires = λ _. emp 𝓤; ensures = λ _ r e. fact 𝓤 (r ≡ answer a.0) }

  abbrev pub Shown : Clauses 𝓤 this.ended → Type 1
  Shown c =
      (κs : Lfts 1) (a : Args this.signature κs) (y : (c κs a).ghost)
      → ent 𝓤 (emp 𝓤) ((c κs a).ensures y (answer a.0.now).number (at_exit this.ended κs a ((answer a.0.now).stack, tt)))

-- what holds of itself stands beside anything
pub beside : {M : Type 1} (𝓤 : Ura M) (P E : SProp 𝓤) → ent 𝓤 (emp 𝓤) E → ent 𝓤 P (sep 𝓤 P E)
beside 𝓤 P E h = via 𝓤 (sep 𝓤 (emp 𝓤) P) (emp∗ 𝓤 P) (via 𝓤 (sep 𝓤 E P) (mono_l 𝓤 P h) (comm∗ 𝓤 E P))

abbrev stayed : Stays (this.ended).signature.params (this.ended).kept
stayed = (stay_ref (0 ∷ []) tt (plain (λ _. T.the_row)), tt)

-- the contract that the proof cites
abbrev pub Callee : {M : Type 1} {𝓤 : Ura M} (𝓛 : Logic 𝓤) (answer : MatrixStack → StackAnswer) → Contract 𝓤
Callee {𝓤 = 𝓤} 𝓛 answer = triple_of 𝓛 callee.signature (closing 𝓛 callee.ended (callee_clauses 𝓤 answer))

-- the machine value of a stack
abbrev pub mach : MatrixStack → Val
mach = LL.val T.the_type T'.the_laws

module _ {M : Type 1} {𝓤 : Ura M} (𝓛 : Logic 𝓤) (answer : MatrixStack → StackAnswer) (c : Clauses 𝓤 this.ended)
    (shown : Shown 𝓤 answer c) (g : Key) (κ : Lft) (q : Share) (b o : ℕ) (γ : GName) (h : MatrixStack)
    (y : (c (κ, tt) (record { ref_ptr = (b, o); ghost_name = γ; now = h }, tt)).ghost) where
  open 𝓛 use {H, A}

  abbrev x : MutBor MatrixStack × Unit {0}
  x = (record { ref_ptr = (b, o); ghost_name = γ; now = h }, tt)

  abbrev at : List Val × Unit {0}
  at = (vptr b o ∷ [], tt)

  abbrev Post : Val → SProp 𝓤
  Post = (walk_of 𝓛 this.ended stayed c).post (((κ, tt), (q, tt), tt, x, at), y)

  exits : (r : StackAnswer) → r ≡ answer h → r.number < 2 ^ 32
      → ent 𝓤 (sep 𝓤 (A.obs γ ((T.the_row).coded.code r.stack)) (sep 𝓤 (A.bor κ (Body (mem (T.the_row)) b o γ)) (A.lft κ q))) (Post (vint w32 r.number))
  exits r e fits =
      qed 𝓛 (‵ (fobs γ ((T.the_row).coded.code r.stack)) ∷ ‵ (fbor κ (Body (mem (T.the_row)) b o γ)) ∷ ‵ (flft κ q) ∷ []) ∵
      suffices ! _ (ends_at 𝓛 this.ended stayed c (((κ, tt), (q, tt), tt, x, at), y) (vint w32 r.number) r.number (r.stack, tt) (tt, tt)) $
      suffices ! _ (beside 𝓤 _ _ (subst⁻¹ (λ (a : StackAnswer). ent 𝓤 (emp 𝓤) ((c (κ, tt) x).ensures y a.number (at_exit this.ended (κ, tt) x (a.stack, tt))))
      e (shown (κ, tt) x y))) $
      nothing ! $ move ! (3 ∷ 0 ∷ []) $ join ! $
      frame ! $ feq_i ! (List Val) (vptr b o ∷ []) (vptr b o ∷ []) refl $ fjoin3 ! $ nothing ! $ move ! (1 ∷ 0 ∷ []) $ fjoin ! $ frame ! $
      owned ! u32 (Is u32) (uint_Makes 𝓛 w32) r.number _ (refl, fits) $ done !

  -- what the callee's triple binds outside, and what it asks
  abbrev to : (Callee 𝓛 answer).Ghost
  to = ((tt, tt, tt, (h, tt), (mach h ∷ [], tt)), tt)

  asked : ent 𝓤 (sem 𝓛 ((T.the_row).own_val h (mach h ∷ []))) ((Callee 𝓛 answer).pre to)
  asked = qed 𝓛 (‵ ((T.the_row).own_val h (mach h ∷ [])) ∷ []) ∵ nothing ! $ move ! (1 ∷ 0 ∷ []) $ join ! $ nothing ! $ join ! $ frame ! $ done !

  -- of the callee's `ensured`, the clause alone: it has no `&mut`, so what is said of last values is dropped
  said : (r : StackAnswer) → ent 𝓤 (ensured 𝓛 callee.ended (callee_clauses 𝓤 answer) tt (h, tt) tt r) (fact 𝓤 (r ≡ answer h))
  said r = ex_e 𝓤 _ (λ ws. snd∗ 𝓤 (sem 𝓛 (lasts callee.ended tt (h, tt) ws)) (fact 𝓤 (r ≡ answer h)))

  -- what whoever holds an answer knows of its fields
  stack_is : (r : StackAnswer) (v : Val) → Is S.the_row r (v ∷ []) → Is T.the_row r.stack (mach r.stack ∷ [])
  stack_is r v is = (LL.owed S.the_type S'.the_laws r _ is).1.0

  code_fits : (r : StackAnswer) (v : Val) → Is S.the_row r (v ∷ []) → r.number < 2 ^ 32
  code_fits r v is = (LL.owed S.the_type S'.the_laws r _ is).0.1

  module _ (C : Calls 𝓤 H) (Λ : Loops 𝓤 H) (fm : FmC 𝓤 H 𝓛.laws C) (known : Triple 𝓤 (C g) (Callee 𝓛 answer)) where
    walk : ent 𝓤 (on_entry 𝓛 this.signature (κ, tt) (q, tt) x at) (WpFn 𝓤 H C Λ (function g) (vptr b o ∷ []) Post)
    walk =
        qed 𝓛 ((‵ (flft κ q) ⊛ ‵ ftrue) ∷ ‵ (owns (MutRef (named 0) κ T.the_row ∷ []) x at) ∷ []) ∵ split ! $ move ! (2 ∷ []) $ fsplit ! $ fsplit3 ! $ drop ! $
        move ! (0 ∷ 1 ∷ 3 ∷ []) $
        -- [obs; the borrow; the token; true; true]
        enter ! C Λ (function g) (vptr b o ∷ []) _ $
        alloc1 ! (λ l₀. alloc1 ! (λ l₁. alloc1 ! (λ l₂. alloc1 ! (λ l₃. alloc1 ! (λ l₄. alloc0 ! $ params1 ! $ pass1 ! (init ! 6 refl (tt, tt)) $ pass0 ! $
        move ! (10 ∷ 11 ∷ 12 ∷ []) $ opens ! tt T.the_row {h = h} b o (λ vs.
        spelt ! T.the_row (Is T.the_row) (shows 𝓛 T.the_row) (LL.vals T.the_type T'.the_laws) (LL.tells T.the_type T'.the_laws) full_share h vs b o $
        move ! (1 ∷ []) $ peeks ! T.the_row (Is T.the_row) (shows 𝓛 T.the_row) h (mach h ∷ []) (λ is₀.
        -- [what the stack owns; its cell; the open borrow; obs; auth; room for _4; …; room for _3; …; room for _2; …; _1; …; room for _0; …]
        assigns ! (of_opd ! (load ! (from ! (hop ! (look ! 11 refl) (stop !))) (look_raw ! 1 refl))) (from ! (stop !))
        (init ! 7 refl ((LL.lawful T.the_type T'.the_laws 𝓛).typed h _ is₀).0) $
        use1 𝓛 (raw ((Callee 𝓛 answer).pre to)) asked $
        calls_at ! fm (Callee 𝓛 answer) known to (and_then ! (load ! (from ! (stop !)) (look ! 7 refl)) (no_more !)) (λ v.
        use1 𝓛 (later (some (λ (r : StackAnswer). (‵ ftrue ⊛ ‵ ((S.the_row).own_val r (v ∷ [])))
        ⊛ raw (ensured 𝓛 callee.ended (callee_clauses 𝓤 answer) tt (h, tt) tt r)))) (id⊢ 𝓤 _) $ await ! tt $ pick ! (λ r.
        split ! $ move ! (1 ∷ []) $ use1 𝓛 (raw (fact 𝓤 (r ≡ answer h))) (said r) $ heard ! (r ≡ answer h) (λ e. split ! $ drop ! $
        peeks ! S.the_row (Is S.the_row) (shows 𝓛 S.the_row) r (v ∷ []) (λ is. drop ! $
        -- [the stack's cell; the open borrow; obs; auth; room for _4; …; _3; …; room for _2; …; _1; …; room for _0; …]
        land ! (from ! (stop !)) (init ! 8 refl ((LL.lawful S.the_type S'.the_laws 𝓛).typed r _ is).0) $
        rewrite ! 8 (λ (u : Val). ‵ (fat full_share S'.mir l₂ 0 u)) (ap only (LL.tells S.the_type S'.the_laws r _ is)) refl $
        assigns ! (of_opd ! (load ! (from ! (fld ! refl (stop !))) (look_in ! 8 (sub ! 1 refl (whole !))))) (from ! (stop !))
        (init ! 4 refl ((LL.lawful T.the_type T'.the_laws 𝓛).typed r.stack _ (stack_is r v is)).0) $
        assigns ! (of_opd ! (load ! (from ! (stop !)) (look ! 4 refl))) (from ! (hop ! (look ! 10 refl) (stop !)))
        (store_raw ! 0 refl ((LL.lawful T.the_type T'.the_laws 𝓛).typed r.stack _ (stack_is r v is)).0) $
        assigns ! (of_opd ! (load ! (from ! (fld ! refl (stop !))) (look_in ! 8 (sub ! 0 refl (whole !))))) (from ! (stop !))
        (init ! 12 refl (tt, record { fits = code_fits r v is })) $
        owned ! T.the_row (Is T.the_row) (LL.makes T.the_type T'.the_plain 𝓛) r.stack _ (stack_is r v is) $ move ! (1 ∷ 0 ∷ []) $
        closes ! tt T.the_row r.stack (mach r.stack ∷ []) b o $
        -- [obs; the borrow; the token; _4; …; _3; …; _2; …; _1; …; _0; …]
        returns ! (look ! 11 refl) $ forget ! 3 refl $ forget ! 5 refl $ forget ! 7 refl $ forget ! 9 refl $ forget ! 11 refl $
        move ! (11 ∷ 12 ∷ []) $ free1 ! $ move ! (9 ∷ 10 ∷ []) $ free1 ! $ move ! (7 ∷ 8 ∷ []) $ free1 ! $ move ! (5 ∷ 6 ∷ []) $ free1 ! $
        move ! (3 ∷ 4 ∷ []) $ free1 ! $ free0 ! $
        keep ! (0 ∷ 1 ∷ 2 ∷ []) $ by ! (exits r e (code_fits r v is)))))))))))))

module _ {M : Type 1} {𝓤 : Ura M} (𝓛 : Logic 𝓤) (answer : MatrixStack → StackAnswer) (c : Clauses 𝓤 this.ended)
    (shown : Shown 𝓤 answer c) (g : Key) where
  open 𝓛 use {H}

  this_walks : (C : Calls 𝓤 H) (Λ : Loops 𝓤 H) → FmC 𝓤 H 𝓛.laws C → Triple 𝓤 (C g) (Callee 𝓛 answer) → Walks 𝓛 this.ended stayed (WpFn 𝓤 H C Λ (function g)) c
  this_walks C Λ fm known = walked 𝓛 this.ended stayed c (WpFn 𝓤 H C Λ (function g)) (λ κs. (mut_vals, tt)) (λ κs. (mut_Tells (named 0) κs.0 T.the_row, tt))
      (λ κs qs bounds a y _. via 𝓤 _ (fst∗ 𝓤 _ ((c κs a).requires y))
      (walk 𝓛 answer c shown g κs.0 qs.0 a.0.ref_ptr.0 a.0.ref_ptr.1 a.0.ghost_name a.0.now y C Λ fm known))

  pub lent_meets : (𝓣 : Tables 𝓤 H) → Triple 𝓤 (𝓣.C g) (Callee 𝓛 answer) → Meets 𝓛 this.signature (WpFn 𝓤 H 𝓣.C 𝓣.Λ (function g)) (closing 𝓛 this.ended c)
  lent_meets 𝓣 known =
      walk_Meets 𝓛 this.ended stayed (Goes-ref 𝓛 1 0 tt (plain (λ _. T.the_row)), tt) c (WpFn 𝓤 H 𝓣.C 𝓣.Λ (function g))
      (WpFn-mono 𝓤 H 𝓛.laws 𝓣 (function g))
      (this_walks 𝓣.C 𝓣.Λ (fm_of 𝓤 H 𝓛.laws 𝓣) known)
