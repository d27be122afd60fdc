-- Numbers that are drawn, one after the other, from a number to begin with.
use Rattle.std.specs.Prelude.{ℕ, zero, suc, ◌+◌, ◌*◌, ◌/◌, ◌%◌, ◌^◌}

-- the state that follows a state, in 64 bits
unfoldable pub next : ℕ → ℕ
next state = (state * 6364136223846793005 + 1442695040888963407) % 2 ^ 64

-- the state after so many draws
unfoldable pub state_after : ℕ → ℕ → ℕ
state_after number zero = number
state_after number (suc n) = next (state_after number n)

-- what a state gives, below k: its lowest 33 bits are left out
unfoldable pub given_below : ℕ → ℕ → ℕ
given_below k state = (state / 2 ^ 33) % k

-- draw n, from 1, below k
unfoldable pub drawn : ℕ → ℕ → ℕ → ℕ
drawn number n k = given_below k (state_after number n)
