use Rattle.std.proofs.Common.{◌≡◌, ◌-◌, ◌≤◌, ◌++◌, replicate, None}
use Rattle.std.specs.Prelude.{vec_len, vec_capacity}
use Rattle.ps_versions.proofs.opening.fill.Given as goal

abbrev pub invariant-loop-records : goal.invariant-loop-records
invariant-loop-records g l = (l.records.items ≡ l.fn.records.items ++ replicate (vec_len l.records - vec_len l.fn.records) None) × (vec_len l.records ≤ l.count) × (vec_len l.fn.records ≤ vec_len l.records) × (l.count ≤ vec_capacity l.records)

abbrev pub decreases-loop-records : goal.decreases-loop-records
decreases-loop-records g l = l.count - vec_len l.records
