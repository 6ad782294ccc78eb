-- Laws on lists that other crates cite too. Assumes nothing.
use Rattle.std.proofs.Common.{◌≡◌, ℕ, zero, suc, ◌<◌, List, [], ◌∷◌, map, length, get_or, refl, arith}
use lib.ListN.{length-map}

-- what is known of an array in a struct is the length of the list that a map makes of it
pub length_mapped : (X Y : Type 0) (f : X → Y) (l : List X) (n : ℕ) → length (map f l) ≡ n → length l ≡ n
length_mapped X Y f l n h = rw length-map at h

-- what stands within a list doesn't depend on the default
pub get_or_any : {A : Type 0} (l : List A) (i : ℕ) (d d' : A) → i < length l → get_or l i d ≡ get_or l i d'
get_or_any [] i d d' h = absurd (omega arith)
get_or_any (a ∷ l) zero d d' h = refl
get_or_any (a ∷ l) (suc i) d d' h = get_or_any l i d d' (omega arith)
