-- A function that lends a stack of its own:
--     fn f(s: MatrixStack) -> StackAnswer { let mut stack = s; let number = g(&mut stack); StackAnswer { number, stack } }
-- The stack lies in a local, which is lent to g for a lifetime that is made for the call, and comes back at the last value that g says.
--     function g               its code, over the key of g
--     callee_clauses answer    the contract of g: number and last stack are those of `answer`
--     Shown answer c           what the contract c says of f holds of `answer`
--     lends_meets              f meets each such contract, if g meets its own
-- Assumes nothing.
use mathlib.Core.Path.{◌≡◌, refl, ap, subst⁻¹}
use Prim.Native.Nat.{ℕ, ◌<◌, ◌^◌}
use mathlib.Core.List.{[], ◌∷◌, List}
use seplogic.Ra.Ura.{Ura}
use base.Fraction.{full_share}
use mir.Syntax.{Fn, Callee as Key, local, value_local, memory_slot, ty_int, ty_ref, mut, named, erased, place, copy, rv_opd, addr_of, aggregate, assign, call, seq, return, w32}
use mir.Val.{Val, vptr}
use base.Logic.{SProp, ent, sep, emp, via, fst∗, id⊢}
use base.Fml.{GName, ftrue, fsep, fat, flft, flent}
use prog.Wp.{Calls, Loops, WpFn, Tables}
use types.Logic.{Logic, sem}
use contract.Lifetimes.{Lfts}
use contract.Monad.{fact}
use types.Kit.{‵, raw, ◌⊛◌, some, later, ◌$◌, ◌∵◌, !, qed, by, move, keep, drop, use1, use2, use3, split, join}
use types.Kit.{pick, rewrite, fsplit, fjoin, fpick, fpack, suffices, frame, await, done}
use types.Run.{look, init, forget, stop, from, load, addr, of_opd, and_then, no_more, assigns, land, returns, enter, alloc1, alloc0, params1, pass1, pass0, free1, free0}
use types.Part.{agg}
use types.SemTy.{Body}
use types.Tokens.{lft_new, lft_end}
use sound.WpLaws.{FmC, fm_of, WpFn-mono}
use denote.RattleType.{owns}
use denote.Laws.{Is, shows}
use denote.Memory.{mem, pointee, cell_at, part_at, part_of}
use denote.Plain.{uint_Lawful}
use denote.Builtin.{u32}
use denote.Lend.{lends_ref, ref_back}
use denote.Ref.{MutBor, MutRef}
use denote.Steps.{only, owned, peeks, heard, nothing}
use denote.Struct.Steps.{spelt}
use denote.Struct.Laws as LL
use denote.Triple.Entry.{Args, on_entry}
use denote.Triple.Spec.{Meets, triple_of}
use denote.Triple.Statement.{Contract, Triple}
use denote.Triple.Call.{calls_at}
use denote.Triple.Clauses.{Clauses, at_exit, closing, ensured, lasts}
use denote.Triple.Walked.{Stays, stay_none, walk_of, Goes-none, Walks, ends_at, walked, walk_Meets}
use denote.Exit.{yes}
use Rattle.stack.specs.declared.MatrixStack.{MatrixStack}
use Rattle.lent_stack.specs.declared.StackAnswer.{StackAnswer}
use Rattle.stack.specs.contracts.MatrixStack as T
use Rattle.stack.proofs.MatrixStack.TheLaws as T'
use Rattle.lent_stack.specs.contracts.StackAnswer as S
use Rattle.lent_stack.proofs.StackAnswer.TheLaws as S'
use Rattle.lent_laws.proofs.Lent.{mach, beside}
use Rattle.lent_stack.specs.contracts.push as callee
use Rattle.lent_stack.specs.contracts.pushed as this

abbrev pub function : Key → Fn
function g = record {
  lifetimes = 0;
  outlives = [];
  ty_params = [];
  givens = 0;
  params = 1;
  locals = local S'.mir value_local ∷ local T'.mir value_local ∷ local T'.mir memory_slot ∷ local (ty_int w32) value_local
      ∷ local (ty_ref erased mut (pointee (T.the_row).written)) value_local ∷ local T'.mir value_local ∷ [];
  body = seq (assign (place 2 []) (rv_opd (copy (place 1 []))))
      (seq (assign (place 4 []) (addr_of (place 2 [])))
      (seq (call g (copy (place 4 []) ∷ []) (place 3 []))
      (seq (assign (place 5 []) (rv_opd (copy (place 2 []))))
      (seq (assign (place 0 []) (aggregate (copy (place 3 []) ∷ copy (place 5 []) ∷ []))) return))));
}

module _ {M : Type 1} (𝓤 : Ura M) (answer : MatrixStack → StackAnswer) where
  abbrev callee_clauses : Clauses 𝓤 callee.ended
  callee_clauses κs a =
      record { ghost = Unit {0}; requires = λ _. emp 𝓤; ensures = λ _ r e. fact 𝓤 ((r ≡ (answer a.0.now).number) × (e.0.now ≡ (answer a.0.now).stack)) }

  abbrev pub Shown : Clauses 𝓤 this.ended → Type 1
  Shown c = (κs : Lfts 0) (a : Args this.signature κs) (y : (c κs a).ghost) → ent 𝓤 (emp 𝓤) ((c κs a).ensures y (answer a.0) (at_exit this.ended κs a (tt, tt)))

abbrev stayed : Stays (this.ended).signature.params (this.ended).kept
stayed = (stay_none (λ _. T.the_row) yes, tt)

-- the contract that the proof cites
abbrev pub Callee : {M : Type 1} {𝓤 : Ura M} (𝓛 : Logic 𝓤) (answer : MatrixStack → StackAnswer) → Contract 𝓤
Callee {𝓤 = 𝓤} 𝓛 answer = triple_of 𝓛 callee.signature (closing 𝓛 callee.ended (callee_clauses 𝓤 answer))

module _ {M : Type 1} {𝓤 : Ura M} (𝓛 : Logic 𝓤) (h : MatrixStack) (l : ℕ) where
  -- a local that holds the stack, as what lies in memory, and back
  open 𝓛 use {H}

  lies_in : ent 𝓤 (sep 𝓤 (H.at full_share T'.mir l 0 (mach h)) (sem 𝓛 ((T.the_row).own_val h (mach h ∷ [])))) (sem 𝓛 (part_at T.the_row full_share h l 0))
  unfolding part_of
  lies_in =
      qed 𝓛 (‵ (fat full_share T'.mir l 0 (mach h)) ∷ ‵ ((T.the_row).own_val h (mach h ∷ [])) ∷ []) ∵
      use1 𝓛 (‵ (cell_at full_share (T.the_row).mir (mach h ∷ []) l 0)) (𝓛.laws.at_raw full_share T'.mir l 0 (mach h)) $
      fjoin ! $ fpack ! (List Val) (λ us. fsep (cell_at full_share (T.the_row).mir us l 0) ((T.the_row).own_val h us)) (mach h ∷ []) $ done !

  lies_out : ent 𝓤 (sem 𝓛 (part_at T.the_row full_share h l 0)) (sep 𝓤 (H.at full_share T'.mir l 0 (mach h)) (sem 𝓛 ((T.the_row).own_val h (mach h ∷ []))))
  unfolding part_of
  lies_out =
      qed 𝓛 (‵ (part_at T.the_row full_share h l 0) ∷ []) ∵ fpick ! (λ vs. fsplit ! $
      spelt ! T.the_row (Is T.the_row) (shows 𝓛 T.the_row) (LL.vals T.the_type T'.the_laws) (LL.tells T.the_type T'.the_laws) full_share h vs l 0 $
      use1 𝓛 (‵ (fat full_share T'.mir l 0 (mach h))) (𝓛.laws.raw_at full_share T'.mir l 0 (mach h)) $ frame ! $ done !)

module _ {M : Type 1} {𝓤 : Ura M} (𝓛 : Logic 𝓤) (answer : MatrixStack → StackAnswer) (c : Clauses 𝓤 this.ended)
    (shown : Shown 𝓤 answer c) (g : Key) (s : MatrixStack) (s-is : Is T.the_row s (mach s ∷ [])) (y : (c tt (s, tt)).ghost) where
  open 𝓛 use {H, A}

  abbrev Post : Val → SProp 𝓤
  Post = (walk_of 𝓛 this.ended stayed c).post ((tt, tt, tt, (s, tt), (mach s ∷ [], tt)), y)

  -- the answer of the number r and the stack z
  abbrev made : ℕ → MatrixStack → StackAnswer
  made r z = record { number = r; stack = z }

  made_is : (r : ℕ) (z : MatrixStack) → r < 2 ^ 32 → Is T.the_row z (mach z ∷ []) → Is S.the_row (made r z) (LL.vals S.the_type S'.the_laws (made r z))
  made_is r z fits z-is = LL.owes S.the_type S'.the_laws (made r z) ((refl, fits), (z-is, tt))

  -- what the callee ensures
  abbrev Said : ℕ → MatrixStack → Type 0
  Said r z = (r ≡ (answer s).number) × (z ≡ (answer s).stack)

  exits : (r : ℕ) (z : MatrixStack) → Said r z → r < 2 ^ 32 → Is T.the_row z (mach z ∷ []) → ent 𝓤 (sem 𝓛 ftrue) (Post (LL.val S.the_type S'.the_laws (made r z)))
  exits r z e fits z-is =
      qed 𝓛 (‵ ftrue ∷ []) ∵
      suffices ! _ (ends_at 𝓛 this.ended stayed c ((tt, tt, tt, (s, tt), (mach s ∷ [], tt)), y) (LL.val S.the_type S'.the_laws (made r z)) (made r z) (tt, tt) (tt, tt)) $
      suffices ! _ (beside 𝓤 _ _ (subst⁻¹ (λ (a : StackAnswer). ent 𝓤 (emp 𝓤) ((c tt (s, tt)).ensures y a (at_exit this.ended tt (s, tt) (tt, tt))))
      (λ i. record { number = e.0 i; stack = e.1 i }) (shown tt (s, tt) y))) $
      owned ! S.the_row (Is S.the_row) (LL.makes S.the_type S'.the_plain 𝓛) (made r z) _ (made_is r z fits z-is) $
      move ! (1 ∷ 0 ∷ []) $ owned ! T.the_row (Is T.the_row) (LL.makes T.the_type T'.the_plain 𝓛) s _ s-is $ fjoin ! $ nothing ! $ done !

  -- what the callee's triple binds outside: the stack at the block l, lent for the lifetime ν under the name δ
  abbrev x : ℕ → GName → MutBor MatrixStack
  x l δ = record { ref_ptr = (l, 0); ghost_name = δ; now = s }

  abbrev to : ℕ → ℕ → GName → (Callee 𝓛 answer).Ghost
  to l ν δ = (((ν ∷ [], tt), (full_share, tt), tt, (x l δ, tt), (vptr l 0 ∷ [], tt)), tt)

  asked : (l ν : ℕ) (δ : GName)
      → ent 𝓤 (sep 𝓤 (A.lft (ν ∷ []) full_share) (sem 𝓛 ((MutRef (named 0) (ν ∷ []) T.the_row).own_val (x l δ) (vptr l 0 ∷ [])))) ((Callee 𝓛 answer).pre (to l ν δ))
  asked l ν δ =
      qed 𝓛 (‵ (flft (ν ∷ []) full_share) ∷ ‵ ((MutRef (named 0) (ν ∷ []) T.the_row).own_val (x l δ) (vptr l 0 ∷ [])) ∷ []) ∵ nothing ! $ move ! (1 ∷ 0 ∷ []) $ join ! $
      nothing ! $ move ! (2 ∷ 0 ∷ []) $ fjoin ! $ move ! (1 ∷ 0 ∷ []) $ join ! $ frame ! $ done !

  module _ (C : Calls 𝓤 H) (Λ : Loops 𝓤 H) (fm : FmC 𝓤 H 𝓛.laws C) (known : Triple 𝓤 (C g) (Callee 𝓛 answer)) where
    walk : ent 𝓤 (on_entry 𝓛 this.signature tt tt (s, tt) (mach s ∷ [], tt)) (WpFn 𝓤 H C Λ (function g) (mach s ∷ []) Post)
    walk =
        let typed = ((LL.lawful T.the_type T'.the_laws 𝓛).typed s _ s-is).0 in
        qed 𝓛 (‵ ftrue ∷ ‵ (owns (T.the_row ∷ []) (s, tt) (mach s ∷ [], tt)) ∷ []) ∵ enter ! C Λ (function g) (mach s ∷ []) _ $
        alloc1 ! (λ l₀. alloc1 ! (λ l₁. alloc1 ! (λ l₂. alloc1 ! (λ l₃. alloc1 ! (λ l₄. alloc1 ! (λ l₅. alloc0 ! $ params1 ! $ pass1 ! (init ! 8 refl typed) $ pass0 ! $
        assigns ! (of_opd ! (load ! (from ! (stop !)) (look ! 8 refl))) (from ! (stop !)) (init ! 6 refl typed) $
        assigns ! (addr ! (from ! (stop !))) (from ! (stop !)) (init ! 2 refl (tt, tt)) $
        -- the local is lent for a lifetime ν of the call
        move ! (13 ∷ []) $ fsplit ! $ move ! (8 ∷ 0 ∷ []) $ use2 𝓛 (‵ (part_at T.the_row full_share s l₂ 0)) (lies_in 𝓛 s l₂) $ lft_new ! tt (λ ν. move ! (1 ∷ []) $
        use1 𝓛 (later (some (λ (δ : GName). ‵ ((MutRef (named 0) (ν ∷ []) T.the_row).own_val (x l₂ δ) (vptr l₂ 0 ∷ [])) ⊛ ‵ (flent (ν ∷ []) (Body (mem T.the_row) l₂ 0 δ)))))
        (lends_ref 𝓛 T.the_row (named 0) (ν ∷ []) s l₂ 0) $ await ! tt $ pick ! (λ δ. split ! $
        move ! (2 ∷ 0 ∷ []) $ use2 𝓛 (raw ((Callee 𝓛 answer).pre (to l₂ ν δ))) (asked l₂ ν δ) $
        -- [what the callee asks; the lender's part; true; _5; …; _4; …; _3; …; what frees _2; _1; …; _0; …; true]
        calls_at ! fm (Callee 𝓛 answer) known (to l₂ ν δ) (and_then ! (load ! (from ! (stop !)) (look ! 5 refl)) (no_more !)) (λ v.
        use1 𝓛 (later (some (λ (r : ℕ). ((‵ (flft (ν ∷ []) full_share) ⊛ ‵ ftrue) ⊛ ‵ (u32.own_val r (v ∷ [])))
        ⊛ raw (ensured 𝓛 callee.ended (callee_clauses 𝓤 answer) (ν ∷ [], tt) (x l₂ δ, tt) tt r)))) (id⊢ 𝓤 _) $ await ! tt $ pick ! (λ r.
        split ! $ move ! (1 ∷ []) $
        use1 𝓛 (some (λ (zs : MatrixStack × Unit {0}). ‵ (lasts callee.ended (ν ∷ [], tt) (x l₂ δ, tt) zs) ⊛ raw (fact 𝓤 (Said r zs.0)))) (id⊢ 𝓤 _) $ pick ! (λ zs.
        split ! $ move ! (1 ∷ []) $ heard ! (Said r zs.0) (λ e. fsplit ! $ fsplit ! $ move ! (1 ∷ []) $ drop ! $ move ! (2 ∷ []) $ split ! $ move ! (1 ∷ []) $
        -- [the number; the token; the last value; true; the lender's part; true; _5; …; _4; …; _3; …; what frees _2; _1; …; _0; …; true]
        peeks ! u32 (Is u32) (shows 𝓛 u32) r (v ∷ []) (λ is.
        land ! (from ! (stop !)) (init ! 10 refl ((uint_Lawful 𝓛 w32).typed r _ is).0) $
        rewrite ! 10 (λ (u : Val). ‵ (fat full_share (ty_int w32) l₃ 0 u)) (ap only is.0) refl $
        -- the lifetime is ended, and the local comes back at that value
        drop ! $ split ! $ lft_end ! tt $ move ! (0 ∷ 4 ∷ 2 ∷ []) $
        use3 𝓛 (later (‵ (part_at T.the_row full_share zs.0 l₂ 0))) (ref_back 𝓛 T.the_row (ν ∷ []) δ zs.0 l₂ 0) $ await ! tt $
        use1 𝓛 (‵ (fat full_share T'.mir l₂ 0 (mach zs.0)) ⊛ ‵ ((T.the_row).own_val zs.0 (mach zs.0 ∷ []))) (lies_out 𝓛 zs.0 l₂) $ split ! $
        move ! (1 ∷ []) $ peeks ! T.the_row (Is T.the_row) (shows 𝓛 T.the_row) zs.0 (mach zs.0 ∷ []) (λ z-is.
        -- [what the stack owns; _2; true; true; true; _5; …; _4; …; _3; …; what frees _2; _1; …; _0; …; true]
        assigns ! (of_opd ! (load ! (from ! (stop !)) (look ! 1 refl))) (from ! (stop !)) (init ! 5 refl ((LL.lawful T.the_type T'.the_laws 𝓛).typed zs.0 _ z-is).0) $
        assigns ! (agg ! (and_then ! (load ! (from ! (stop !)) (look ! 9 refl)) (and_then ! (load ! (from ! (stop !)) (look ! 5 refl)) (no_more !)))) (from ! (stop !))
        (init ! 14 refl ((LL.lawful S.the_type S'.the_laws 𝓛).typed (made r zs.0) _ (made_is r zs.0 is.1 z-is)).0) $
        returns ! (look ! 14 refl) $ forget ! 5 refl $ forget ! 7 refl $ forget ! 9 refl $ forget ! 1 refl $ forget ! 12 refl $ forget ! 14 refl $
        move ! (14 ∷ 15 ∷ []) $ free1 ! $ move ! (12 ∷ 13 ∷ []) $ free1 ! $ move ! (1 ∷ 11 ∷ []) $ free1 ! $ move ! (8 ∷ 9 ∷ []) $ free1 ! $ move ! (6 ∷ 7 ∷ []) $
        free1 ! $ move ! (4 ∷ 5 ∷ []) $ free1 ! $ free0 ! $
        keep ! (1 ∷ []) $ by ! (exits r zs.0 e is.1 z-is)))))))))))))))

module _ {M : Type 1} {𝓤 : Ura M} (𝓛 : Logic 𝓤) (answer : MatrixStack → StackAnswer) (c : Clauses 𝓤 this.ended)
    (shown : Shown 𝓤 answer c) (g : Key) where
  open 𝓛 use {H}

  this_walks : (C : Calls 𝓤 H) (Λ : Loops 𝓤 H) → FmC 𝓤 H 𝓛.laws C → Triple 𝓤 (C g) (Callee 𝓛 answer) → Walks 𝓛 this.ended stayed (WpFn 𝓤 H C Λ (function g)) c
  this_walks C Λ fm known = walked 𝓛 this.ended stayed c (WpFn 𝓤 H C Λ (function g)) (λ κs. (LL.vals T.the_type T'.the_laws, tt)) (λ κs. (LL.tells T.the_type T'.the_laws, tt))
      (λ κs qs bounds a y are. via 𝓤 _ (fst∗ 𝓤 _ ((c κs a).requires y)) (walk 𝓛 answer c shown g a.0 are.0 y C Λ fm known))

  pub lends_meets : (𝓣 : Tables 𝓤 H) → Triple 𝓤 (𝓣.C g) (Callee 𝓛 answer) → Meets 𝓛 this.signature (WpFn 𝓤 H 𝓣.C 𝓣.Λ (function g)) (closing 𝓛 this.ended c)
  lends_meets 𝓣 known =
      walk_Meets 𝓛 this.ended stayed (Goes-none 𝓛 0 (λ _. T.the_row) yes (λ κs x f. refl), tt) c (WpFn 𝓤 H 𝓣.C 𝓣.Λ (function g))
      (WpFn-mono 𝓤 H 𝓛.laws 𝓣 (function g))
      (this_walks 𝓣.C 𝓣.Λ (fm_of 𝓤 H 𝓛.laws 𝓣) known)
