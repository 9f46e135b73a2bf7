-- How much a batch may hold.
use Rattle.std.specs.Prelude.{ℕ}

-- the most reports of a batch
abbrev pub report_limit : ℕ
report_limit = 0

-- the most items of a report
abbrev pub item_limit : ℕ
item_limit = 16
