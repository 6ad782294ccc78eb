-- A function that does what another does at other arguments meets its contract, if the other meets its own,
-- if what its parameters own at entry is what the other asks, and if the other's promise is its own.
--     spec         a contract with no `requires`, by what it promises of the arguments, the result and what is seen of the parameters at exit
--     adapts       the law, over any two lists of parameters with one result
-- Assumes nothing.
use Prim.Native.Nat.{ℕ}
use mathlib.Core.List.{List, [], ◌∷◌}
use lib.Dec.{T as Holds}
use seplogic.Ra.Ura.{Ura}
use mir.Syntax.{Callee, Ty}
use mir.Val.{Val, has_ty, WT}
use base.Logic.{SProp, guard, ent, sep, ex, emp, via, comm∗, mono_r, fst∗, snd∗, emp∗, ex_i, ex_e, guard_i}
use prog.Wp.{Heap, Calls}
use types.Logic.{Logic, sem}
use contract.Lifetimes.{Lfts, Shares}
use contract.Monad.{Fun, fact_use}
use sound.WpLaws.{FmC, fm→mono_c}
use denote.RattleType.{Denots, Valss, flat, owns}
use denote.Laws.{Is, Ises, Are, Spells, valss, Tellss, shows}
use denote.Signature.{Slot, Signature, types_at}
use denote.Steps.{said}
use denote.Triple.End.{Kepts, Outs}
use denote.Triple.Entry.{on_entry, alive}
use denote.Triple.Spec.{Spec, Meets, triple_of, exits}
use denote.Triple.Statement.{Triple}

-- a value is of a type, as a write to a local asks
abbrev pub Typed : Ty → Val → Type 0
Typed τ v = Holds (has_ty τ v) × WT v

-- what is promised of a value, with its type
abbrev pub with_type : {M : Type 1} (𝓤 : Ura M) (H : Heap 𝓤) → Ty → (Val → SProp 𝓤) → Val → SProp 𝓤
with_type 𝓤 H τ Q u = H.⇛ (guard 𝓤 (Typed τ u) (Q u))

abbrev pub signature : {n : ℕ} → List (Slot n) → Slot n → Signature
signature {n} ps result = record { lifetimes = n; outlives = []; params = ps; result = result }

-- what a contract promises
abbrev pub Promise : {M : Type 1} (𝓤 : Ura M) {n : ℕ} (ps : List (Slot n)) → Slot n → Kepts ps → Type 2
Promise 𝓤 {n} ps result ks = (κs : Lfts n) → Denots (types_at ps κs) → (result.row κs).Denot → Outs κs ps ks → SProp 𝓤

module _ {M : Type 1} {𝓤 : Ura M} (𝓛 : Logic 𝓤) {n : ℕ} where
  abbrev pub ensures : (ps : List (Slot n)) (result : Slot n) (ks : Kepts ps) → Promise 𝓤 ps result ks
      → (κs : Lfts n) → Denots (types_at ps κs) → (result.row κs).Denot → SProp 𝓤
  ensures ps result ks P κs a r = exits 𝓛 (signature ps result) ks κs a (P κs a r)

  abbrev pub spec : (ps : List (Slot n)) (result : Slot n) (ks : Kepts ps) → Promise 𝓤 ps result ks → Spec 𝓤 (signature ps result)
  spec ps result ks P κs a = record { ghost = Unit {0}; requires = λ _. emp 𝓤; ensures = λ _ r. ensures ps result ks P κs a r }

and_nothing : {M : Type 1} (𝓤 : Ura M) (P : SProp 𝓤) → ent 𝓤 P (sep 𝓤 P (emp 𝓤))
and_nothing 𝓤 P = via 𝓤 (sep 𝓤 (emp 𝓤) P) (emp∗ 𝓤 P) (comm∗ 𝓤 (emp 𝓤) P)

module _ {M : Type 1} {𝓤 : Ura M} (𝓛 : Logic 𝓤) {n : ℕ} (result : Slot n) (τ : Ty)
    (typed : (κs : Lfts n) (r : (result.row κs).Denot) (u : Val) → Is (result.row κs) r (u ∷ []) → Typed τ u) where
  -- a promise over a result, with the type of its machine value
  open 𝓛 use {H}

  module _ (κs : Lfts n) (qs : Shares n) (u : Val) (P Q : (result.row κs).Denot → SProp 𝓤) where
    abbrev owned : (result.row κs).Denot → SProp 𝓤
    owned r = sem 𝓛 ((result.row κs).own_val r (u ∷ []))

    abbrev back : (result.row κs).Denot → SProp 𝓤
    back r = sep 𝓤 (alive 𝓛 (signature [] result) κs qs) (owned r)

    abbrev over : ((result.row κs).Denot → SProp 𝓤) → SProp 𝓤
    over R = ex 𝓤 (λ (r : (result.row κs).Denot). sep 𝓤 (back r) (R r))

    returned : ((r : (result.row κs).Denot) → ent 𝓤 (P r) (Q r)) → ent 𝓤 (H.⇛ (over P)) (with_type 𝓤 H τ (λ _. H.⇛ (over Q)) u)
    returned h = 𝓛.laws.⇛_mono _ _ (ex_e 𝓤 _ (λ r.
        fact_use 𝓤 (Is (result.row κs) r (u ∷ []))
        (via 𝓤 (owned r) (via 𝓤 (back r) (fst∗ 𝓤 (back r) (P r)) (snd∗ 𝓤 (alive 𝓛 (signature [] result) κs qs) (owned r)))
        (shows 𝓛 (result.row κs) r (u ∷ [])))
        (λ is. via 𝓤 (H.⇛ (over Q))
        (via 𝓤 (over Q) (via 𝓤 (sep 𝓤 (back r) (Q r)) (mono_r 𝓤 (back r) (h r)) (ex_i 𝓤 (λ (r : (result.row κs).Denot). sep 𝓤 (back r) (Q r)) r)) (𝓛.laws.⇛_intro (over Q)))
        (guard_i 𝓤 (Typed τ u) (H.⇛ (over Q)) (typed κs r u is)))))

  module _ (ps ps' : List (Slot n)) (ks : Kepts ps) (ks' : Kepts ps') (P : Promise 𝓤 ps result ks) (P' : Promise 𝓤 ps' result ks')
      (sp : (κs : Lfts n) → Spells (types_at ps κs)) (tl : (κs : Lfts n) → Tellss (types_at ps κs) (Ises (types_at ps κs)) (sp κs))
      (passed : (κs : Lfts n) → Denots (types_at ps κs) → Denots (types_at ps' κs)) (values : (κs : Lfts n) → Denots (types_at ps κs) → Valss (types_at ps' κs))
      (C : Calls 𝓤 H) (fm : FmC 𝓤 H 𝓛.laws C) (g : Callee) (run : Fun 𝓤) where
    abbrev own : (κs : Lfts n) → Denots (types_at ps κs) → Valss (types_at ps κs)
    own κs a = valss (types_at ps κs) (sp κs) a

    pub adapts :
        -- the parameters own what the other asks
        ((κs : Lfts n) (a : Denots (types_at ps κs))
        → ent 𝓤 (sem 𝓛 (owns (types_at ps κs) a (own κs a))) (sem 𝓛 (owns (types_at ps' κs) (passed κs a) (values κs a))))
        -- the other's promise is this one's
        → ((κs : Lfts n) (a : Denots (types_at ps κs)) (r : (result.row κs).Denot)
        → ent 𝓤 (ensures 𝓛 ps' result ks' P' κs (passed κs a) r) (ensures 𝓛 ps result ks P κs a r))
        -- it does what the other does
        → ((κs : Lfts n) (a : Denots (types_at ps κs)) (Q : Val → SProp 𝓤) → Are (types_at ps κs) (Ises (types_at ps κs)) a (own κs a)
        → ent 𝓤 (C g (flat (types_at ps' κs) (values κs a)) (with_type 𝓤 H τ Q)) (run (flat (types_at ps κs) (own κs a)) Q))
        → Triple 𝓤 (C g) (triple_of 𝓛 (signature ps' result) (spec 𝓛 ps' result ks' P')) → Meets 𝓛 (signature ps result) run (spec 𝓛 ps result ks P)
    adapts enters leaves forwards known y =
        let κs = y.0.0 in
        let qs = y.0.1 in
        let a = y.0.3 in
        let post : Val → SProp 𝓤 = (triple_of 𝓛 (signature ps result) (spec 𝓛 ps result ks P)).post y in
        via 𝓤 (on_entry 𝓛 (signature ps result) κs qs a y.0.4) (fst∗ 𝓤 _ (emp 𝓤))
        (said 𝓛 (signature ps result) κs qs (sp κs) (tl κs) a (λ us. run (flat (types_at ps κs) us) post) y.0.4 (λ are.
        via 𝓤 (on_entry 𝓛 (signature ps' result) κs qs (passed κs a) (values κs a))
        (mono_r 𝓤 (alive 𝓛 (signature [] result) κs qs) (enters κs a))
        (via 𝓤 _ (and_nothing 𝓤 (on_entry 𝓛 (signature ps' result) κs qs (passed κs a) (values κs a))) (via 𝓤 _ (known ((κs, qs, tt, passed κs a, values κs a), tt))
        (via 𝓤 _ (fm→mono_c 𝓤 H 𝓛.laws C fm g _ _ (with_type 𝓤 H τ post)
        (λ u. returned κs qs u (ensures 𝓛 ps' result ks' P' κs (passed κs a)) (ensures 𝓛 ps result ks P κs a) (leaves κs a))) (forwards κs a post are))))))
