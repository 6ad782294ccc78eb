-- The worked examples P1 to P10 of document 01 as one checked list: `bench_examples` is a proof of all ten. Each speaks of the definitions that the
-- contracts cite.
use Rattle.std.specs.Prelude.{true, false, List, [], ◌∷◌, ◌++◌, map, ◌≡◌, refl, ℕ, zero, suc, pos, get_or, replicate, Float, Ok, Err}
use Rattle.std.proofs.Math.Option.{some}
use Rattle.std.specs.Float.{binary32}
use Rattle.std.specs.Float.Ieee.{of_bits, of_int, neg, add, sub, mul, div, lt}
use Rattle.number.specs.F32.{f1, f_minus_1, f2}
use Rattle.number.specs.Numbers.{fixed, unorm, snorm, signed_of}
use Rattle.matrix.specs.Matrix.{at, frustum_of, translation, transformed}
use Rattle.stack.specs.Stack.{push, stack_answer, fresh_stack}
use Rattle.stack.specs.declared.MatrixStack.{MatrixStack}
use Rattle.fetch.specs.Decode.{component_bytes, vector_of}
use Rattle.fetch.specs.Fetch.{part_of, address_of, fetched}
use Rattle.fetch.specs.declared.ArrayPointer.{ArrayPointer}
use Rattle.fetch.specs.declared.FetchFailure.{FetchFailure}
use Rattle.vertex.specs.Index.{up_from, range_count}
use Rattle.corners.specs.Places.{triangle_count, corners_of}
use Rattle.corners.specs.declared.Primitive.{Primitive}

-- the indices at the corners of a list's triangles
abbrev pub corner_indices : List ℕ → Primitive → List ℕ → List (List ℕ)
corner_indices is p ts = map (λ t. get_or is (corners_of p t).a 0 ∷ get_or is (corners_of p t).b 0 ∷ get_or is (corners_of p t).c 0 ∷ []) ts

abbrev pub seven : List ℕ
seven = 7 ∷ 8 ∷ 9 ∷ 10 ∷ []

-- the numbers that n pushes in a row answer
abbrev pub push_numbers : ℕ → MatrixStack → List ℕ
push_numbers zero s = []
push_numbers (suc n) s = (stack_answer push s).number ∷ push_numbers n (stack_answer push s).after

abbrev pub f3 : Float
f3 = of_bits binary32 0x4040_0000

abbrev pub f4 : Float
f4 = of_bits binary32 0x4080_0000

abbrev pub frustum113 : List Float
frustum113 = frustum_of (neg f1) f1 (neg f1) f1 f1 f3

abbrev pub five_floats : ArrayPointer
five_floats = record { enabled = true; size = 5; ty = 0x1406; stride = 0; pointer = 0; buffer = 1 }

pub record BenchExamples : Type 0 where
  -- strip 7,8,9,10: (7,8,9),(9,8,10)
  pub P1 : corner_indices seven Primitive.Strip (up_from 0 (triangle_count Primitive.Strip 4)) ≡ (7 ∷ 8 ∷ 9 ∷ []) ∷ (9 ∷ 8 ∷ 10 ∷ []) ∷ []
  -- fan: (7,8,9),(7,9,10)
  pub P2 : corner_indices seven Primitive.Fan (up_from 0 (triangle_count Primitive.Fan 4)) ≡ (7 ∷ 8 ∷ 9 ∷ []) ∷ (7 ∷ 9 ∷ 10 ∷ []) ∷ []
  -- list of 5: one; strip of 2: none
  pub P3 : (triangle_count Primitive.Triangles 5 ≡ 1) × (triangle_count Primitive.Strip 2 ≡ 0)
  -- fixed 98304: 1.5; 16777217: 256.0
  pub P4 : (fixed (pos 98304) ≡ of_bits binary32 0x3fc0_0000) × (fixed (pos 16777217) ≡ of_bits binary32 0x4380_0000)
  -- colour byte -128: -1.0; 255 unsigned: 1.0
  pub P5 : (snorm (signed_of 8 0x80) 127 ≡ f_minus_1) × (unorm 255 255 ≡ f1)
  -- 15 pushes pass, the 16th is 0x0503
  pub P6 : push_numbers 16 fresh_stack ≡ replicate 15 0 ++ (0x0503 ∷ [])
  -- frustum(-1,1,-1,1,1,3): entries 0, 5 = 1; 10 = -2; 11 = -1; 14 = -3
  pub P7 : (at frustum113 0 ≡ f1) × (at frustum113 5 ≡ f1) × (at frustum113 10 ≡ neg f2) × (at frustum113 11 ≡ neg f1) × (at frustum113 14 ≡ neg f3)
  -- translate(1,2,3) on (1,1,1,1): (2,3,4,1)
  pub P8 : transformed (translation f1 f2 f3) (f1 ∷ f1 ∷ f1 ∷ f1 ∷ []) ≡ f2 ∷ f3 ∷ f4 ∷ f1 ∷ []
  -- size 5 floats: 16 bytes fail, 20 pass
  pub P9 : (fetched (λ n. some (replicate 16 0)) 0 [] five_floats 0 false ≡ Err FetchFailure.Unreadable)
      × (fetched (λ n. some (replicate 20 0)) 0 [] five_floats 0 false ≡ Ok (vector_of 0x1406 5 false (replicate 20 0)))
  -- first 4294967293, count 5: two indices
  pub P10 : up_from 4294967293 (range_count 4294967293 5) ≡ 4294967293 ∷ 4294967294 ∷ []

pub bench_examples : BenchExamples
unfolding up_from of_bits of_int add sub mul div neg lt stack_answer frustum_of translation component_bytes address_of part_of fetched
bench_examples =
    record {
      P1 = refl;
      P2 = refl;
      P3 = (refl, refl);
      P4 = (refl, refl);
      P5 = (refl, refl);
      P6 = refl;
      P7 = (refl, refl, refl, refl, refl);
      P8 = refl;
      P9 = (refl, refl);
      P10 = refl;
    }
