-- Gather and scatter of document 01 over the width w, lowest bit first: the lowest bit of the mask m says whether a bit of x is taken.
use Rattle.std.specs.Prelude.{ℕ, zero, suc, ◌+◌, ◌*◌, ◌/◌, ◌%◌, ◌^◌}

-- the bits of x at the ones of m, moved together from bit 0 up
unfoldable pub gather : ℕ → ℕ → ℕ → ℕ
gather zero x m = 0
gather (suc w) x m = elim (m % 2) [ zero ↦ gather w (x / 2) (m / 2) | suc _ ↦ x % 2 + 2 * gather w (x / 2) (m / 2) ]

-- the bits of x from bit 0 up, moved apart to the ones of m
unfoldable pub scatter : ℕ → ℕ → ℕ → ℕ
scatter zero x m = 0
scatter (suc w) x m = elim (m % 2) [ zero ↦ 2 * scatter w x (m / 2) | suc _ ↦ x % 2 + 2 * scatter w (x / 2) (m / 2) ]

-- bit j of x
unfoldable pub bit : ℕ → ℕ → ℕ
bit x j = x / 2 ^ j % 2

-- how many of the bits of x below p are ones
unfoldable pub count : ℕ → ℕ → ℕ
count x zero = 0
count x (suc p) = count x p + bit x p
