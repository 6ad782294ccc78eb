-- Triangles (01: "Draws"): how many there are, and which places of the index list are their corners.
use Rattle.std.specs.Prelude.{cond, ℕ, ◌+◌, ◌-◌, ◌*◌, ◌/◌, ◌%◌, eqb}
use Rattle.corners.specs.declared.Corners.{Corners}
use Rattle.corners.specs.declared.Primitive.{Primitive}

-- the primitive of mode 4, 5 or 6
abbrev pub primitive_of : ℕ → Primitive
primitive_of mode = cond (eqb mode 4) Primitive.Triangles (cond (eqb mode 5) Primitive.Strip Primitive.Fan)

-- how many triangles n indices make
abbrev pub triangle_count : Primitive → ℕ → ℕ
triangle_count Primitive.Triangles n = n / 3
triangle_count Primitive.Strip n = n - 2
triangle_count Primitive.Fan n = n - 2

-- the corners of triangle t: a list has (0,1,2), (3,4,5), ..; a strip with i = t + 2 has (i-2,i-1,i) if i is even, else (i-1,i-2,i); a fan has (0,i-1,i)
abbrev pub corners_of : Primitive → ℕ → Corners
corners_of Primitive.Triangles t = record { a = 3 * t; b = 3 * t + 1; c = 3 * t + 2 }
corners_of Primitive.Strip t = cond (eqb (t % 2) 0) (record { a = t; b = t + 1; c = t + 2 }) (record { a = t + 1; b = t; c = t + 2 })
corners_of Primitive.Fan t = record { a = 0; b = t + 1; c = t + 2 }

-- the place in the index list of a corner, the corners of all triangles numbered from 0
abbrev pub corner_place : Primitive → ℕ → ℕ
corner_place p c = cond (eqb (c % 3) 0) (corners_of p (c / 3)).a (cond (eqb (c % 3) 1) (corners_of p (c / 3)).b (corners_of p (c / 3)).c)
