use Rattle.std.specs.Prelude.{◌≡◌, ◌++◌, map, string_bytes}
use Rattle.std.specs.FinMap as fin
use Rattle.trace_text.specs.Transcript.{account_shown, text_of}
use Rattle.trace_text.proofs.state.push_account_lines.Given as goal

abbrev pub invariant-loop-id : goal.invariant-loop-id
invariant-loop-id l = string_bytes l.text ++ text_of (map account_shown l.id-iterator) ≡ string_bytes l.fn.text ++ text_of (map account_shown (fin.entries l.accounts))
