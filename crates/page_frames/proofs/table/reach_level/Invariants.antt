use Rattle.std.proofs.Common.{◌≡◌, ℕ, ◌≤◌, [], length, get_or}
use Rattle.page_frames.proofs.table.reach_level.Given as goal

abbrev pub invariant-loop-missing : goal.invariant-loop-missing
invariant-loop-missing l = (l._missing ≤ length l.table.items) × ((i : ℕ) → get_or l.table.items i [] ≡ get_or l.fn.table.items i [])
