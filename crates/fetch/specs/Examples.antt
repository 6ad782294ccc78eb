-- Worked examples as theorems about the definitions.
use Rattle.std.specs.Prelude.{true, ◌≡◌, refl}
use Rattle.fetch.specs.Decode.{component_bytes}
use Rattle.fetch.specs.Fetch.{address_of, overflow}

-- bytes times size is tried even when a stride is given
pub product_tried : address_of (record { enabled = true; size = 0x4000_0000; ty = 0x1406; stride = 4; pointer = 0; buffer = 0 }) 0 ≡ overflow
unfolding component_bytes address_of
product_tried = refl
