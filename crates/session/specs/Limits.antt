-- The office's limits.
use Rattle.std.specs.Prelude.{ℕ}

-- the most unanswered orders
abbrev pub window_limit : ℕ
window_limit = 8

-- the last order's number
abbrev pub order_limit : ℕ
order_limit = 65535
