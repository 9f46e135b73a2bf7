-- Texts that are not UTF-8, and work that may refuse a line.
use Rattle.std.proofs.Common.{ℕ, List, [], length, refl, sym, ap, ◌∙◌, subst, arith, Result, Ok, Err}
use Rattle.std.specs.Str.{IsUtf8}
use Rattle.jam_codec.specs.declared.refusal.FileRefusal.TheVariants.{Malformed}
use Rattle.jam_cli.specs.declared.verb.Kind.TheVariants.{Text}
use Rattle.jam_cli.specs.declared.refusal.Refusal.{Refusal}
use Rattle.jam_cli.specs.declared.refusal.Refusal.TheVariants.{NoMemory, BadWords, ReadFault, TooLong, NotSpelled, BadLine, SinkFault, StoreFault}
use Rattle.jam_cli.specs.declared.reads.File as code_file
use Rattle.jam_cli.specs.declared.work.Work as code_work
use Rattle.jam_cli.specs.Table.{Command}
use Rattle.jam_cli.specs.Command.{Work}
use Rattle.jam_cli.specs.Parts.{IsNone, IsWork, OfFiles, ComesTo, WorkedOn}

-- bytes that are no text are refused where they begin
pub no_text : (bytes : List ℕ) → (IsUtf8 bytes → ⊥) → IsNone Text bytes (Malformed 0)
no_text bytes not = (
  record { run = []; left = bytes; whole = refl; bytes = refl; place = refl; longest = λ other more none is. omega (arith, ap length none) },
  λ spelled. not (subst IsUtf8 (sym spelled.1.1) spelled.1.0),
)

pub worked_out : (c : Command) (fs : List code_file.File) (r : Result code_work.Work Refusal) (w : Work) → OfFiles fs (λ gs. IsWork c gs w) → ComesTo w r → WorkedOn c fs r
worked_out c fs (Ok x) w on is = λ gs are. ((on gs are).0, (on gs are).1, is ∙ (on gs are).2)
worked_out c fs (Err (BadLine line kind)) w on is = λ gs are. ((on gs are).0, (on gs are).1, sym is ∙ (on gs are).2)
worked_out c fs (Err NoMemory) w on is = λ gs are. tt
worked_out c fs (Err BadWords) w on is = absurd is
worked_out c fs (Err (ReadFault word)) w on is = absurd is
worked_out c fs (Err (TooLong word)) w on is = absurd is
worked_out c fs (Err (NotSpelled word place)) w on is = absurd is
worked_out c fs (Err SinkFault) w on is = absurd is
worked_out c fs (Err StoreFault) w on is = absurd is
