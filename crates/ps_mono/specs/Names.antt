-- Names close up where a variable is gone.
use Rattle.std.specs.Prelude.{ℕ, suc, ◌-◌, cond, nat_lt}

-- the new name of u once v is gone
unfoldable pub closed : ℕ → ℕ → ℕ
closed v u = cond (nat_lt v u) (u - 1) u

-- the old name of w
unfoldable pub opened : ℕ → ℕ → ℕ
opened v w = cond (nat_lt w v) w (suc w)
