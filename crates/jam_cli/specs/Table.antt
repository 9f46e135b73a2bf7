-- The table of words: the verbs, each with its name and its parts in order; and what words ask for by it.
use Rattle.std.specs.Prelude.{◌≡◌, ◌≢◌, ℕ, ◌+◌, ◌^◌, ◌<◌, ◌≤◌, List, [], ◌∷◌, length, map, codes, decimal, String, string_bytes, Option, Some, None, Ok, IfSome}
use Rattle.std.specs.List.{find}
use Rattle.std.specs.Str.{bytes_eq}
use Rattle.hex.specs.Hex.{decode_of}
use Rattle.std.specs.declared.alloc.Global.{Global}
use Rattle.jam_cli.specs.declared.verb.Kind.{Kind}
use Rattle.jam_cli.specs.declared.verb.Kind.TheVariants.{Program, Standard, Bytes, State, Batch, Text}
use Rattle.jam_cli.specs.declared.verb.Verb.{Verb}
use Rattle.jam_cli.specs.declared.verb.Verb.TheVariants as the

-- a part: the name of a file that is read, with what it holds; the name that is stored under; a number from the least on and
-- below the bound; bytes in hexadecimal, of which there are at least and at most so many
pub data Part : Type 0 where
  reads : (kind : Kind) → Part
  stores : Part
  number : (least bound : ℕ) → Part
  hexadecimal : (least most : ℕ) → Part

pub record Row : Type 0 where
  pub name : List ℕ
  pub parts : List Part

-- the table; the slice of accumulate is 0 for now
abbrev pub row : Verb → Row
row the.Run = record { name = codes "run"; parts = reads Program ∷ (number 0 (2 ^ 63) ∷ []) }
row the.Trace = record { name = codes "trace"; parts = reads Standard ∷ (number 0 (2 ^ 32) ∷ (number 0 (2 ^ 63) ∷ (hexadecimal 0 (2 ^ 24) ∷ (number 1 1001 ∷ [])))) }
row the.Show = record { name = codes "show"; parts = reads State ∷ [] }
row the.Hash = record { name = codes "hash"; parts = reads Bytes ∷ [] }
row the.Asm = record { name = codes "asm"; parts = reads Text ∷ (stores ∷ []) }
row the.Disasm = record { name = codes "disasm"; parts = reads Program ∷ [] }
row the.Accumulate = record { name = codes "accumulate"; parts = reads State ∷ (reads Batch ∷ (stores ∷ (number 0 1 ∷ []))) }

abbrev pub verbs : List Verb
verbs = the.Run ∷ (the.Trace ∷ (the.Show ∷ (the.Hash ∷ (the.Asm ∷ (the.Disasm ∷ (the.Accumulate ∷ []))))))

-- the verb with a name, if there is one
unfoldable pub verb_named : List ℕ → Option Verb
verb_named word = find (λ verb. bytes_eq (row verb).name word) verbs

-- the argument for a part: a name, a number, or bytes
abbrev pub Argument : Part → Type 0
Argument (reads kind) = List ℕ
Argument stores = List ℕ
Argument (number least bound) = ℕ
Argument (hexadecimal least most) = List ℕ

abbrev pub Arguments : List Part → Type 0
Arguments [] = Unit {0}
Arguments (part ∷ parts) = Argument part × Arguments parts

-- a word of bytes in hexadecimal: a dash for none, and else two digits of either case for each
abbrev pub IsHexadecimal : List ℕ → List ℕ → Type 0
IsHexadecimal [] word = word ≡ codes "-"
IsHexadecimal (byte ∷ bytes) word = decode_of word ≡ Ok (byte ∷ bytes)

-- a word of an argument: a name itself, a number's decimal digits without leading zeros, bytes in hexadecimal. It is no
-- function of the argument, since digits of either case spell the same bytes
abbrev pub IsWord : (part : Part) → Argument part → List ℕ → Type 0
IsWord (reads kind) name word = word ≡ name
IsWord stores name word = word ≡ name
IsWord (number least bound) n word = word ≡ decimal n
IsWord (hexadecimal least most) bytes word = IsHexadecimal bytes word

-- words of the arguments, one for each part
abbrev pub AreWords : (parts : List Part) → Arguments parts → List (List ℕ) → Type 0
AreWords [] arguments [] = Unit {0}
AreWords [] arguments (word ∷ words) = ⊥
AreWords (part ∷ parts) arguments [] = ⊥
AreWords (part ∷ parts) arguments (word ∷ words) = IsWord part arguments.0 word × AreWords parts arguments.1 words

-- a name is not empty, and a number or a count of bytes is within its bounds
abbrev pub Fits : (part : Part) → Argument part → Type 0
Fits (reads kind) name = name ≢ []
Fits stores name = name ≢ []
Fits (number least bound) n = (least ≤ n) × (n < bound)
Fits (hexadecimal least most) bytes = (least ≤ length bytes) × (length bytes ≤ most)

abbrev pub FitAll : (parts : List Part) → Arguments parts → Type 0
FitAll [] arguments = Unit {0}
FitAll (part ∷ parts) arguments = Fits part arguments.0 × FitAll parts arguments.1

-- a file that is read: the number of its word, where the verb is word 0; its name, and what it holds
pub record Input : Type 0 where
  pub word : ℕ
  pub name : List ℕ
  pub kind : Kind

-- the inputs among the parts, of which the first is this word
abbrev pub with_input : ℕ → (part : Part) → Argument part → List Input → List Input
with_input word (reads kind) name later = record { word = word; name = name; kind = kind } ∷ later
with_input word stores name later = later
with_input word (number least bound) n later = later
with_input word (hexadecimal least most) bytes later = later

abbrev pub inputs_from : ℕ → (parts : List Part) → Arguments parts → List Input
inputs_from word [] arguments = []
inputs_from word (part ∷ parts) arguments = with_input word part arguments.0 (inputs_from (word + 1) parts arguments.1)

-- the name of the first part that stores
abbrev pub or_stored : (part : Part) → Argument part → Option (List ℕ) → Option (List ℕ)
or_stored (reads kind) name later = later
or_stored stores name later = Some name
or_stored (number least bound) n later = later
or_stored (hexadecimal least most) bytes later = later

abbrev pub stored_from : (parts : List Part) → Arguments parts → Option (List ℕ)
stored_from [] arguments = None
stored_from (part ∷ parts) arguments = or_stored part arguments.0 (stored_from parts arguments.1)

-- a command: a verb, and an argument for each part of its row
pub record Command : Type 0 where
  pub verb : Verb
  pub arguments : Arguments (row verb).parts

abbrev pub command : (verb : Verb) → Arguments (row verb).parts → Command
command verb arguments = record { verb = verb; arguments = arguments }

-- words of a command: the name of its verb, and then words of its arguments
abbrev pub AreWordsOf : Command → List (List ℕ) → Type 0
AreWordsOf c [] = ⊥
AreWordsOf c (word ∷ words) = (word ≡ (row c.verb).name) × AreWords (row c.verb).parts c.arguments words

-- the files that it reads, in the order of their words
abbrev pub inputs : Command → List Input
inputs c = inputs_from 1 (row c.verb).parts c.arguments

-- the name that it stores under, if it stores
abbrev pub stored_name : Command → Option (List ℕ)
stored_name c = stored_from (row c.verb).parts c.arguments

-- no input has the name
abbrev pub NamesNone : List Input → List ℕ → Type 0
NamesNone [] name = Unit {0}
NamesNone (i ∷ is) name = (name ≢ i.name) × NamesNone is name

-- the words ask for the command: they are words of it, its arguments fit, and it stores under no name that it reads
pub record Asks (c : Command) (words : List (List ℕ)) : Type 0 where
  pub words_are : AreWordsOf c words
  pub fit : FitAll (row c.verb).parts c.arguments
  pub apart : IfSome (stored_name c) (NamesNone (inputs c))

-- no row of the table has these words
abbrev pub AsksNothing : List (List ℕ) → Type 0
AsksNothing words = (c : Command) → Asks c words → ⊥

-- the bytes of the words
abbrev pub texts : List (String Global) → List (List ℕ)
texts words = map (λ w. string_bytes w) words
