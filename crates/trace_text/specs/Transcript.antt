-- The lines that are printed. The words of a line have a blank between them, and a line feed ends it. Numbers are decimal, bytes
-- are lower-case hexadecimal.
use Rattle.std.specs.Prelude.{ℕ, ◌+◌, List, [], ◌∷◌, ◌++◌, length, map, take, codes, decimal, Option, Some, None}
use Rattle.std.specs.FinMap as fin
use Rattle.hex.specs.Hex.{encode_lower}
use Rattle.pvm_isa.specs.Opcodes.{name_of}
use Rattle.pvm_step.specs.declared.exit.Exit.{Exit}
use Rattle.pvm_step.specs.declared.exit.Exit.TheVariants as ended
use Rattle.pvm_invoke.specs.Outcome.{Outcome}
use Rattle.jam_accounts.specs.Accounts.{Account, State}
use Rattle.jam_accounts.specs.Footprint.{footprint_of, threshold_of}
use Rattle.trace_text.specs.declared.line.Line.{Line}
use Rattle.trace_text.specs.declared.line.Line.TheVariants as of

-- a blank before each of the words, and the line feed
abbrev pub words_after : List (List ℕ) → List ℕ
words_after [] = 10 ∷ []
words_after (word ∷ words) = 32 ∷ (word ++ words_after words)

abbrev pub line_of : List ℕ → List (List ℕ) → List ℕ
line_of name words = name ++ words_after words

-- a name and a number
abbrev pub number_line : List ℕ → ℕ → List ℕ
number_line name n = line_of name (decimal n ∷ [])

abbrev pub exit_line : Exit → List ℕ
exit_line ended.Halt = line_of (codes "exit") (codes "halt" ∷ [])
exit_line ended.Panic = line_of (codes "exit") (codes "panic" ∷ [])
exit_line ended.OutOfGas = line_of (codes "exit") (codes "out-of-gas" ∷ [])
exit_line (ended.Fault address) = line_of (codes "exit") (codes "fault" ∷ (decimal address ∷ []))
exit_line (ended.Host number) = line_of (codes "exit") (codes "host" ∷ (decimal number ∷ []))

-- bytes, or a dash where there are none
abbrev pub shown : List ℕ → List ℕ
shown [] = codes "-"
shown (b ∷ bytes) = encode_lower (b ∷ bytes)

abbrev pub shown_if_any : Option (List ℕ) → List ℕ
shown_if_any None = codes "-"
shown_if_any (Some bytes) = encode_lower bytes

abbrev pub account_line : ℕ → List ℕ → ℕ → ℕ → ℕ → ℕ → ℕ → ℕ → ℕ → ℕ → ℕ → List ℕ
account_line id code balance items octets threshold storage preimages lookups gratis created =
    line_of (codes "account") (decimal id ∷ (codes "code" ∷ (code ∷ (codes "balance" ∷ (decimal balance
    ∷ (codes "items" ∷ (decimal items ∷ (codes "octets" ∷ (decimal octets ∷ (codes "threshold" ∷ (decimal threshold
    ∷ (codes "storage" ∷ (decimal storage ∷ (codes "preimages" ∷ (decimal preimages ∷ (codes "lookups" ∷ (decimal lookups
    ∷ (codes "gratis" ∷ (decimal gratis ∷ (codes "created" ∷ (decimal created ∷ [])))))))))))))))))))))

-- the bytes of a line
abbrev pub line_bytes : Line → List ℕ
line_bytes (of.Exit exit) = exit_line exit
line_bytes (of.Pc pc) = number_line (codes "pc") pc
line_bytes (of.Gas gas) = number_line (codes "gas") gas
line_bytes (of.Register index value) = number_line (114 ∷ decimal index) value
line_bytes (of.Output length front) = line_of (codes "output") (decimal length ∷ (shown front ∷ []))
line_bytes (of.Step number pc op gas) =
    line_of (codes "step") (decimal number ∷ (codes "pc" ∷ (decimal pc ∷ (name_of op ∷ (codes "gas" ∷ (decimal gas ∷ []))))))
line_bytes (of.Size bytes digest) = line_of (codes "bytes") (decimal bytes ∷ (encode_lower digest ∷ []))
line_bytes (of.Digest digest) = line_of (encode_lower digest) []
line_bytes (of.Version version) = number_line (codes "version") version
line_bytes (of.Slot slot) = number_line (codes "slot") slot
line_bytes (of.Entropy entropy) = line_of (codes "entropy") (encode_lower entropy ∷ [])
line_bytes (of.Accounts count) = number_line (codes "accounts") count
line_bytes (of.Account id code balance items octets threshold storage preimages lookups gratis created) =
    account_line id (encode_lower code) balance items octets threshold storage preimages lookups gratis created
line_bytes (of.Refine service) = number_line (codes "refine") service
line_bytes of.Absent = line_of (codes "absent") []
line_bytes of.NoCode = line_of (codes "no") (codes "code" ∷ [])
line_bytes of.BadCode = line_of (codes "bad") (codes "code" ∷ [])
line_bytes (of.Exports count) = number_line (codes "exports") count
line_bytes (of.Group number reports gas) =
    line_of (codes "group") (decimal number ∷ (codes "reports" ∷ (decimal reports ∷ (codes "gas" ∷ (decimal gas ∷ [])))))
line_bytes (of.Turn service steps gas pc) =
    line_of (codes "turn") (decimal service ∷ (codes "steps" ∷ (decimal steps ∷ (codes "gas" ∷ (decimal gas ∷ (codes "pc" ∷ (decimal pc ∷ [])))))))
line_bytes (of.Run service) = number_line (codes "run") service
line_bytes (of.Yield yielded) = line_of (codes "yield") (shown_if_any yielded ∷ [])
line_bytes (of.Transfers count) = number_line (codes "transfers") count
line_bytes (of.LeftOut count) = number_line (codes "left-out") count
line_bytes (of.Credit target amount gas transfers) =
    line_of (codes "credit") (decimal target ∷ (codes "amount" ∷ (decimal amount ∷ (codes "gas" ∷ (decimal gas ∷ (codes "transfers" ∷ (decimal transfers ∷ [])))))))
line_bytes (of.Lost target amount transfers) =
    line_of (codes "lost") (decimal target ∷ (codes "amount" ∷ (decimal amount ∷ (codes "transfers" ∷ (decimal transfers ∷ [])))))
line_bytes (of.TransferRun service) = number_line (codes "transfer-run") service
line_bytes (of.Preimages count) = number_line (codes "preimages") count
line_bytes (of.State digest) = line_of (codes "state") (encode_lower digest ∷ [])
line_bytes (of.Services count) = number_line (codes "services") count
line_bytes (of.Reports count) = number_line (codes "reports") count
line_bytes (of.Groups count) = number_line (codes "groups") count
line_bytes (of.Runs count) = number_line (codes "runs") count
line_bytes (of.Items sum) = number_line (codes "items") sum
line_bytes (of.Octets sum) = number_line (codes "octets") sum
line_bytes (of.Balance sum) = number_line (codes "balance") sum

-- the bytes of lines, one after another
unfoldable pub text_of : List Line → List ℕ
text_of [] = []
text_of (line ∷ lines) = line_bytes line ++ text_of lines

-- a line for each register, from the k-th on
unfoldable pub register_lines : ℕ → List ℕ → List Line
register_lines k [] = []
register_lines k (value ∷ values) = of.Register k value ∷ register_lines (k + 1) values

-- the block of an outcome
unfoldable pub block : Outcome → List Line
block o = of.Exit o.exit ∷ (of.Pc o.pc ∷ (of.Gas o.left ∷ (register_lines 0 o.registers ++ (of.Output (length o.output) (take 64 o.output) ∷ []))))

-- the line of an account under its service's number
abbrev pub account_shown : ℕ × Account → Line
account_shown entry =
    let account : Account = entry.1 in
    of.Account entry.0 account.code_hash account.balance (footprint_of account).items (footprint_of account).octets (threshold_of (footprint_of account) account.gratis)
    (fin.len account.storage) (fin.len account.preimages) (fin.len account.lookups) account.gratis account.created

-- the lines of a state, with one for each account in the order of their numbers
unfoldable pub state_lines : State → List Line
state_lines s = of.Version s.version ∷ (of.Slot s.slot ∷ (of.Entropy s.entropy ∷ (of.Accounts (fin.len s.accounts) ∷ map account_shown (fin.entries s.accounts))))
