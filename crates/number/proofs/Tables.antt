-- A `match` on a number against a table: what the table says where an arm's keys, or none of them, are the number. Assumes nothing.
use Rattle.std.proofs.Common.{◌≡◌, ℕ, List, [], ◌∷◌, sym, refl, ap, subst, inl, inr, ⊎_elim, ne_eqb}
use mathlib.Core.Option.{get_or, none}
use types.Run.{OneOf}
use Rattle.number.specs.Tables.{Row, ◌names◌, lookup, row_or}

-- what the last arm knows, where each arm before it has one row's number
abbrev pub NoneOf : {A : Type 0} → Type 0 → List (Row A) → ℕ → Type 0
NoneOf N [] n = N
NoneOf N ((code names a) ∷ rows) n = NoneOf (N × (n ≡ code → ⊥)) rows n

missed : {A : Type 0} (N : Type 0) (rows : List (Row A)) (n : ℕ) → NoneOf N rows n → N × (lookup rows n ≡ none)
missed N [] n h = (h, refl)
missed N ((code names a) ∷ rows) n h =
    let r = missed (N × (n ≡ code → ⊥)) rows n h in
    (r.0.0, rw (ne_eqb n code r.0.1) r.1)

pub misses : {A : Type 0} (rows : List (Row A)) (n : ℕ) → NoneOf (Unit {0}) rows n → lookup rows n ≡ none
misses rows n h = (missed (Unit {0}) rows n h).1

-- no row has the code: the last one given is meant
pub last_row : {A : Type 0} (rows : List (Row A)) (n : ℕ) (d : A) → NoneOf (Unit {0}) rows n → d ≡ row_or rows n d
last_row rows n d h = sym (ap (λ o. get_or o d) (misses rows n h))

-- an arm with the numbers of several rows
abbrev pub codes : {A : Type 0} → List (Row A) → List ℕ
codes [] = []
codes ((code names a) ∷ rows) = code ∷ codes rows

pub apart : {A : Type 0} (N : Type 0) (rows : List (Row A)) (n : ℕ) → N → (OneOf (codes rows) n → ⊥) → NoneOf N rows n
apart N [] n m h = m
apart N ((code names a) ∷ []) n m h = (m, h)
apart N ((code names a) ∷ (code' names a') ∷ rows) n m h =
    apart (N × (n ≡ code → ⊥)) ((code' names a') ∷ rows) n (m, λ e. h (inl e)) (λ e. h (inr e))

-- what holds of each of several keys
abbrev pub Each : (ℕ → Type 0) → List ℕ → Type 0
Each P [] = Unit {0}
Each P (k ∷ ks) = P k × Each P ks

pub of_each : (P : ℕ → Type 0) (ks : List ℕ) (n : ℕ) → Each P ks → OneOf ks n → P n
of_each P [] n e h = absurd h
of_each P (k ∷ []) n e h = subst P (sym h) e.0
of_each P (k ∷ k' ∷ ks) n e h = ⊎_elim (λ q. subst P (sym q) e.0) (λ q. of_each P (k' ∷ ks) n e.1 q) h
