-- What holds of the table and of what files spell, whatever the words and the files.
use Rattle.std.specs.Prelude.{◌≡◌, ◌≢◌, ℕ, List, Contains, Some, option_map}
use Rattle.jam_cli.specs.declared.verb.Kind.{Kind}
use Rattle.jam_cli.specs.Table.{Command, Input, Asks, inputs, stored_name}
use Rattle.jam_cli.specs.Command.{File, Values, SpellAll, kinds, IsRefusedAt, Product, made, work}

-- words ask for at most one command
abbrev pub AskOnce : Type 0
AskOnce = (c d : Command) (words : List (List ℕ)) → Asks c words → Asks d words → c ≡ d

-- no input has the name that is stored under
abbrev pub StoreApart : Type 0
StoreApart = (c : Command) (words : List (List ℕ)) (name : List ℕ) (i : Input) → Asks c words → stored_name c ≡ Some name → Contains (inputs c) i → i.name ≢ name

-- files spell at most one list of values
abbrev pub SpellOnce : Type 0
SpellOnce = (ks : List Kind) (values others : Values ks) (files : List File) → SpellAll ks values files → SpellAll ks others files → values ≡ others

-- bytes are refused at one place
abbrev pub RefuseOnce : Type 0
RefuseOnce = (kind : Kind) (bytes : List ℕ) (place other : ℕ) → IsRefusedAt kind bytes place → IsRefusedAt kind bytes other → place ≡ other

-- what is stored is stored under the name of the table, and where the table has none nothing is
abbrev pub EntryNamed : Type 0
EntryNamed = (c : Command) (values : Values (kinds (inputs c))) (p : Product) → work c values ≡ made p → option_map (λ (e : List ℕ × List ℕ). e.0) p.entry ≡ stored_name c
