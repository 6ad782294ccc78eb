-- Each way out of a draw, over plain values. Assumes nothing.
use mathlib.Core.List.{List, []}
use mathlib.Core.Path.{◌≡◌, refl, ap, ◌∙◌}
use Prim.Native.Nat.{ℕ, ◌*◌, ◌<◌, ◌≤◌}
use native.Mathlib.Omega.{arith}
use borrow.Author.Tests.{lt-ltb, le-ltb, ne_eqb}
use lib.ListN.{length}
use lib.Seq.{sets}
use lib.Ieee.{Float}
use Rattle.fetch.specs.Fetch.{Part, bytes, no_buffer, unreadable}
use Rattle.vertex.specs.Scene.{Scene, Source, elements}
use Rattle.vertex.specs.Index.{numbers, index_width, index_part, indices_in, indices_from}
use Rattle.vertex.specs.Questions.{list_number, validation}
use Rattle.vertex.specs.declared.Vertex.{Vertex}
use Rattle.corners.specs.Places.{triangle_count, primitive_of}
use Rattle.assembly.specs.Triangles.{Triangle, vertex_at, triangles_to, words_of}
use Rattle.draw.specs.Draw.{triangles_of, draw_answer, draw_in, Drawn, Draws}
use Rattle.draw.specs.DrawCode.{drawn_from}
use Rattle.refusal.specs.Refusals.{refusal_number}
use Rattle.refusal.specs.declared.Refusal.{Refusal}
use Rattle.std.specs.Prelude.{Result, Ok, Err}
use Rattle.std.specs.Result.{IsErrAnd}
use Rattle.corners.specs.declared.Primitive.{Primitive}
use Rattle.assembly.proofs.Triangles.{count_triangles, words_stored}

-- ---- the output

pub triangles_are : (s : Scene) (mode : ℕ) (is : List ℕ) (p : Primitive) (n count : ℕ) → p ≡ primitive_of mode → n ≡ length is → count ≡ triangle_count p n
    → triangles_to (vertex_at s is) p count ≡ triangles_of s mode is
triangles_are s mode is p n count ep en ec = rw (ec, en, ep)

-- how many triangles a draw makes
pub count_drawn : (s : Scene) (mode : ℕ) (is : List ℕ) → length (triangles_of s mode is) ≡ triangle_count (primitive_of mode) (length is)
count_drawn s mode is = count_triangles (vertex_at s is) (primitive_of mode) (triangle_count (primitive_of mode) (length is))

module _ (ts : List Triangle) (out : List Float) where
  pub refused_draw : (number : ℕ) → (number ≡ 0 → ⊥) → Draws (draw_answer number (length out) ts) (record { number = number; count = 0 }) out out
  unfolding words_of
  refused_draw number h = rw (ne_eqb number 0 h) (record { number = refl; count = refl; output = refl })

  pub no_room : length out < 51 * length ts → Draws (draw_answer 0 (length out) ts) (record { number = 11; count = 0 }) out out
  unfolding words_of
  no_room h = rw (lt-ltb _ _ h) (record { number = refl; count = refl; output = refl })

  pub drawn : (count : ℕ) (out' : List Float) → count ≡ length ts → 51 * length ts ≤ length out → out' ≡ sets out 0 (words_of ts)
      → Draws (draw_answer 0 (length out) ts) (record { number = 0; count = count }) out out'
  drawn count out' e h stored = rw (le-ltb _ _ h) (record { number = refl; count = e; output = stored ∙ words_stored ts out h })

-- ---- what a `?` hands on

pub positive : (e : Refusal) → refusal_number e ≡ 0 → ⊥
positive Refusal.Invalid z = omega (arith, z)
positive Refusal.GuestTooLong z = omega (arith, z)
positive Refusal.UnknownStage z = omega (arith, z)
positive Refusal.NoSlot z = omega (arith, z)
positive Refusal.NoName z = omega (arith, z)
positive Refusal.TooLarge z = omega (arith, z)
positive Refusal.UnreadableIndices z = omega (arith, z)
positive Refusal.NoVertices z = omega (arith, z)
positive Refusal.NoPosition z = omega (arith, z)
positive Refusal.NoTriangles z = omega (arith, z)
positive Refusal.NoRoom z = omega (arith, z)
positive Refusal.InvalidEnum z = omega (arith, z)
positive Refusal.InvalidValue z = omega (arith, z)
positive Refusal.InvalidOperation z = omega (arith, z)
positive Refusal.StackOverflow z = omega (arith, z)
positive Refusal.StackUnderflow z = omega (arith, z)

pub handed_on : (r : Result ℕ Refusal) (e : Refusal) → IsErrAnd r (λ (x : Refusal). x ≡ e) → drawn_from r ≡ record { number = refusal_number e; count = 0 }
handed_on (Ok n) e h = absurd h
handed_on (Err x) e h = ap (λ (y : Refusal). record { number = refusal_number y; count = 0 }) h

-- ---- from the parts of a draw to the draw

module _ (s : Scene) (element mode : ℕ) (source : Source) where
  pub draw_refused : (out : List Float) (k : ℕ) → validation s element mode source ≡ k → (k ≡ 0 → ⊥)
      → Draws (draw_in s element mode source (length out)) (record { number = k; count = 0 }) out out
  unfolding draw_in
  draw_refused out k e h = rw e (refused_draw (triangles_of s mode (indices_from s element source)) out k h)

  pub draw_listed : (n room : ℕ) (is : List ℕ) (r : Drawn) (out out' : List Float) → validation s element mode source ≡ n → indices_from s element source ≡ is
      → Draws (draw_answer n room (triangles_of s mode is)) r out out' → Draws (draw_in s element mode source room) r out out'
  unfolding draw_in
  draw_listed n room is r out out' e f d = rw (e, f) d

  pub draw_by_list : (room : ℕ) (is : List ℕ) (r : Drawn) (out out' : List Float)
      → validation s element mode source ≡ list_number s mode (indices_from s element source) → indices_from s element source ≡ is
      → Draws (draw_answer (list_number s mode is) room (triangles_of s mode is)) r out out' → Draws (draw_in s element mode source room) r out out'
  draw_by_list room is r out out' e f d = draw_listed (list_number s mode is) room is r out out' (e ∙ ap (list_number s mode) f) f d

-- no index, no triangle
none_read : (part : Part) (w : ℕ) → indices_in part w 0 ≡ []
unfolding numbers
none_read (bytes bs) w = refl
none_read no_buffer w = refl
none_read unreadable w = refl

none_drawn : (vertex : ℕ → Vertex) (p : Primitive) → triangles_to vertex p (triangle_count p 0) ≡ []
unfolding triangles_to
none_drawn vertex Primitive.Triangles = refl
none_drawn vertex Primitive.Strip = refl
none_drawn vertex Primitive.Fan = refl

pub empty_draw : (s : Scene) (element mode count ty pointer : ℕ) (out : List Float) → validation s element mode (elements count ty pointer) ≡ 0 → count ≡ 0
    → Draws (draw_in s element mode (elements count ty pointer) (length out)) (record { number = 0; count = 0 }) out out
unfolding words_of
empty_draw s element mode count ty pointer out e z =
    draw_listed s element mode (elements count ty pointer) 0 (length out) [] (record { number = 0; count = 0 }) out out e
    (ap (λ (n : ℕ). indices_in (index_part s element n ty pointer) (index_width ty) n) z ∙ none_read (index_part s element 0 ty pointer) (index_width ty))
    (rw (none_drawn (vertex_at s []) (primitive_of mode)) (drawn [] out 0 out refl (omega arith) refl))
