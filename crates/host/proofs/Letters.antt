-- The letters of a code that a host hands in: eight at the most count, and of more none.
-- Assumes nothing.
use Rattle.std.specs.Prelude.{◌≡◌, ℕ, ◌<◌, ◌≤◌}
use borrow.Author.Tests.{lt-ltb, le-ltb}
use Rattle.host.specs.Writing.{letters_by}

-- more than eight count as none
pub too_many : (n : ℕ) → 8 < n → 0 ≡ letters_by n
unfolding letters_by
too_many n more = rw (lt-ltb _ _ more)

-- up to eight count
pub up_to_eight : (n : ℕ) → n ≤ 8 → n ≡ letters_by n
unfolding letters_by
up_to_eight n few = rw (le-ltb _ _ few)
