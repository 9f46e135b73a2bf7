use Rattle.std.proofs.Common.{◌≡◌, ℕ, ◌≤◌, None, length, get_or}
use Rattle.page_frames.proofs.table.reach_key.Given as goal

abbrev pub invariant-loop-missing : goal.invariant-loop-missing
invariant-loop-missing l = (l._missing ≤ length l.keys.items) × ((i : ℕ) → get_or l.keys.items i None ≡ get_or l.fn.keys.items i None)
