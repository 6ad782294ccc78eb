-- What is fetched from arrays that are prepared, over plain values. Assumes nothing.
use mathlib.Core.Bool.{Bool, true, false, not}
use mathlib.Core.List.{List}
use mathlib.Core.Path.{◌≡◌, refl, sym, ap, subst, ◌∙◌}
use Prim.Native.Nat.{ℕ, ◌<◌}
use native.Mathlib.Nat.{zero-add}
use borrow.Author.Tests.{eqb-false, not-true}
use lib.Dec.{eqb}
use lib.ListN.{get_or}
use Rattle.buffers.specs.Bounded.{first}
use Rattle.vertex.proofs.Search.{first_real}
use Rattle.fetch.specs.Decode.{vector_of}
use Rattle.std.specs.Prelude.{Result, Ok, Err}
use Rattle.fetch.specs.Fetch.{Fetched, position_number}
use Rattle.fetch.specs.FetchCode.{part_source}
use Rattle.fetch.specs.declared.ArrayPointer.{ArrayPointer}
use Rattle.fetch.specs.declared.FetchFailure.{FetchFailure}
use Rattle.fetch.specs.declared.Vec4.{Vec4}
use Rattle.vertex.specs.Scene.{Scene}
use Rattle.vertex.specs.SceneCode.{scene_in}
use Rattle.vertex.specs.declared.DrawInputs.{DrawInputs}
use Rattle.vertex.specs.Vertex.{element_of, position_of}
use Rattle.vertex.specs.Questions.{position_at, fails}
use Rattle.assembly.specs.ElementsCode.{location_of, Locates, PreparesFor}
use Rattle.assembly.specs.declared.Prepared.{Prepared}

module _ (s : Scene) (store : List ℕ) (e : Prepared) where
  -- an array that is prepared is so under its own name
  pub own_array : {a : ArrayPointer} → PreparesFor s store a e → PreparesFor s store e.array e
  own_array h = subst (λ (a : ArrayPointer). PreparesFor s store a e) (sym h.array) h

  located : PreparesFor s store e.array e → (index : ℕ) {l r : Result ℕ FetchFailure} → l ≡ location_of e index → l ≡ r
      → Locates (element_of s e.array index) e.array (part_source e.array.buffer store s.guest) e.len r
  located h index el er =
      subst (Locates (element_of s e.array index) e.array (part_source e.array.buffer store s.guest) e.len) (sym el ∙ er) (h.element index)

-- what is found agrees with the fetch
pub found : (s : DrawInputs) (store guest : List ℕ) (e : Prepared) → PreparesFor (scene_in s store guest) store e.array e
    → (index : ℕ) {l r : Result ℕ FetchFailure} → l ≡ location_of e index → l ≡ r
    → Locates (element_of (scene_in s store guest) e.array index) e.array (part_source e.array.buffer store guest) e.len r
found s store guest e h index el er = located (scene_in s store guest) store e h index el er

pub components_are : (a : ArrayPointer) (normalize : Bool) {f : Fetched} {part bs : List ℕ} {v : Vec4}
    → v ≡ vector_of a.ty a.size normalize part → part ≡ bs → f ≡ Ok (vector_of a.ty a.size normalize bs) → Ok v ≡ f
components_are a normalize ev ep ef = ap Ok (ev ∙ ap (vector_of a.ty a.size normalize) ep) ∙ sym ef

nine : (cause : FetchFailure) → position_number (Err cause) ≡ 9
nine FetchFailure.UnknownType = refl
nine FetchFailure.Overflow = refl
nine FetchFailure.NoBuffer = refl
nine FetchFailure.Unreadable = refl

-- ---- the search for a position that cannot be fetched

module _ (s : Scene) (store is : List ℕ) (e : Prepared) (h : PreparesFor s store s.arrays.vertex e) (place k : ℕ) (ek : k ≡ get_or is place 0) where
  -- what is found of the position at a place
  asked : {l : Result ℕ FetchFailure} → location_of e k ≡ l
      → Locates (element_of s s.arrays.vertex k) s.arrays.vertex (part_source s.arrays.vertex.buffer store s.guest) e.len l
  asked f = subst (Locates (element_of s s.arrays.vertex k) s.arrays.vertex (part_source s.arrays.vertex.buffer store s.guest) e.len) f (h.element k)

  named : {f : Fetched} → element_of s s.arrays.vertex k false ≡ f → position_number f ≡ position_at s is place
  named f = ap position_number (sym f) ∙ ap (λ (j : ℕ). position_number (position_of s j)) ek

  -- a position that is found does not fail, and one that is not does
  pub position_passes : {at : ℕ} → location_of e k ≡ Ok at → fails s is place ≡ false
  position_passes f = ap (λ (n : ℕ). not (eqb n 0)) (sym (named ((asked f).3 false)))

  pub position_fails : {cause : FetchFailure} → location_of e k ≡ Err cause → fails s is place ≡ true
  position_fails {cause} f = ap (λ (n : ℕ). not (eqb n 0)) (sym (named (asked f false)) ∙ nine cause)

-- a position that fails has the number 9
nine_of : (f : Fetched) → not (eqb (position_number f) 0) ≡ true → 9 ≡ position_number f
nine_of (Ok v) e = absurd (eqb-false 0 0 (not-true _ e) refl)
nine_of (Err cause) e = sym (nine cause)

pub failing_nine : (s : Scene) (is : List ℕ) (n place : ℕ) → place ≡ first n (fails s is) → place < n → 9 ≡ position_at s is place
unfolding first
failing_nine s is n place e h =
    nine_of (position_of s (get_or is place 0)) (ap (fails s is) e ∙ first_real (fails s is) 0 n (rw zero-add (rw e at h)))
