-- An element's bytes as four components (01: "Fetch and decode").
use Rattle.std.specs.Prelude.{ℕ, ◌*◌, Bool, cond, ◌||◌, List, eqb, ltb, Float, ℤ, pos, take, drop}
use Rattle.std.specs.Float.{binary32}
use Rattle.std.specs.Float.Ieee.{of_bits}
use Rattle.number.specs.F32.{nearest, f0, f1}
use Rattle.number.specs.Numbers.{little_endian, signed_of, fixed, unorm, snorm}
use Rattle.fetch.specs.declared.Vec4.{Vec4}

-- bytes of a component, 0 for an unknown type
unfoldable pub component_bytes : ℕ → ℕ
component_bytes ty =
    cond (eqb ty 0x1400 || eqb ty 0x1401) 1
    (cond (eqb ty 0x1402 || eqb ty 0x1403) 2
    (cond (eqb ty 0x1406 || eqb ty 0x140C) 4 0))

-- an unsigned and a signed component of a type whose largest value is max, normalised or not
abbrev pub unsigned_component : Bool → ℕ → ℕ → Float
unsigned_component normalize max n = cond normalize (unorm n max) (nearest (pos n))

abbrev pub signed_component : Bool → ℕ → ℤ → Float
signed_component normalize max v = cond normalize (snorm v max) (nearest v)

-- a component of a type from the number of its little-endian bytes; floats and fixed-point numbers are not normalised
unfoldable pub component_of : ℕ → Bool → ℕ → Float
component_of ty normalize n =
    cond (eqb ty 0x1406) (of_bits binary32 n)
    (cond (eqb ty 0x140C) (fixed (signed_of 32 n))
    (cond (eqb ty 0x1400) (signed_component normalize 127 (signed_of 8 n))
    (cond (eqb ty 0x1402) (signed_component normalize 32767 (signed_of 16 n))
    (cond (eqb ty 0x1401) (unsigned_component normalize 255 n)
    (unsigned_component normalize 65535 n)))))

-- component i of an element's bytes, or what an absent one is
abbrev pub component : ℕ → ℕ → Bool → List ℕ → ℕ → Float → Float
component ty size normalize bytes i other =
    cond (ltb i size) (component_of ty normalize (little_endian (take (component_bytes ty) (drop (component_bytes ty * i) bytes)))) other

-- at most four components; absent ones are 0, 0, 0, 1
unfoldable pub vector_of : ℕ → ℕ → Bool → List ℕ → Vec4
vector_of ty size normalize bytes =
    record {
      x = component ty size normalize bytes 0 f0;
      y = component ty size normalize bytes 1 f0;
      z = component ty size normalize bytes 2 f0;
      w = component ty size normalize bytes 3 f1;
    }
