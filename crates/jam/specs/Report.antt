-- How the program reports the end of a call: its exit status, and a line on standard error.
use Rattle.std.specs.Prelude.{ℕ, List, [], ◌++◌, codes, decimal}
use Rattle.jam_cli.specs.declared.status.Status.{Status}
use Rattle.jam_cli.specs.declared.status.Status.TheVariants.{Done, NoMemory, BadWords, ReadFault, TooLong, Refused, BadLine, SinkFault, StoreFault}
use Rattle.pvm_asm.specs.Kind.{kind_text}

abbrev pub exit_code : Status → ℕ
exit_code Done = 0
exit_code NoMemory = 1
exit_code BadWords = 2
exit_code (ReadFault word) = 3
exit_code (TooLong word) = 4
exit_code (Refused word place) = 5
exit_code (BadLine line kind) = 6
exit_code SinkFault = 7
exit_code StoreFault = 8

-- the line without its line feed; none where the call is done
abbrev pub status_text : Status → List ℕ
status_text Done = []
status_text NoMemory = codes "no memory"
status_text BadWords = codes "bad words"
status_text (ReadFault word) = codes "read fault: word " ++ decimal word
status_text (TooLong word) = codes "too long: word " ++ decimal word
status_text (Refused word place) = codes "refused: word " ++ (decimal word ++ (codes ", byte " ++ decimal place))
status_text (BadLine line kind) = codes "line " ++ (decimal line ++ (codes ": " ++ kind_text kind))
status_text SinkFault = codes "output fault"
status_text StoreFault = codes "store fault"
