-- What a test in the code promises.
use Rattle.std.specs.Prelude.{◌≡◌, Bool, true, false}

-- the test's answer decides P
pub record Decides (P : Type 0) (answer : Bool) : Type 0 where
  pub yes : answer ≡ true → P
  pub no : answer ≡ false → P → ⊥
