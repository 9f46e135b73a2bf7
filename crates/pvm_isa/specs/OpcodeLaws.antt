-- Each opcode is found by its number and by its name, and nothing else is.
use Rattle.std.proofs.Common.{◌≡◌, ℕ, ◌<◌, Bool, true, false, List, [], ◌∷◌, Some, refl, sym, ap, ◌∙◌, lit<}
use Rattle.std.specs.Prelude.{◌==◌}
use Rattle.std.specs.List.{find}
use Rattle.std.specs.Str.{bytes_eq}
use Rattle.std.proofs.lemmas.Bool.{eqb-true}
use Rattle.std.proofs.lemmas.Slice.Eq.{bytes_eq-Decides}
use Rattle.pvm_isa.specs.declared.op.Op.{Op}
use Rattle.pvm_isa.specs.declared.op.Op.TheVariants.{Trap}
use Rattle.pvm_isa.specs.Opcodes.{entry, all_ops, number_of, name_of, op_numbered, op_with_name}

-- computed over the whole list, once for each opcode
pub numbered : (op : Op) → op_numbered (number_of op) ≡ Some op
unfolding op_numbered all_ops entry
numbered Trap = refl
numbered _ = refl

pub named : (op : Op) → op_with_name (name_of op) ≡ Some op
unfolding op_with_name all_ops entry
named Trap = refl
named _ = refl

pub number_of-below : (op : Op) → number_of op < 256
unfolding entry
number_of-below Trap = lit< tt
number_of-below _ = lit< tt

-- what is found passes the test
find-passes : {X : Type 0} (test : X → Bool) (x : X) (xs : List X) → find test xs ≡ Some x → test x ≡ true
find-passes test x [] e = absurd (cc e)
find-passes {X} test x (y ∷ ys) e =
    let by : (found : Bool) → test y ≡ found → test x ≡ true = λ found.
    elim found as (λ (b : Bool). test y ≡ b → test x ≡ true) [
      | true ↦ λ passes. let first : find test (y ∷ ys) ≡ Some y = rw passes refl in let same : y ≡ x = cc in rw (← same) passes
      | false ↦ λ fails. let later : find test (y ∷ ys) ≡ find test ys = rw fails refl in find-passes test x ys (sym later ∙ e)
    ] in
    by (test y) refl

pub numbered-only : (n : ℕ) (op : Op) → op_numbered n ≡ Some op → number_of op ≡ n
unfolding op_numbered
numbered-only n op e = eqb-true (number_of op) n (find-passes (λ op. number_of op == n) op all_ops e)

pub named-only : (name : List ℕ) (op : Op) → op_with_name name ≡ Some op → name_of op ≡ name
unfolding op_with_name
named-only name op e = (bytes_eq-Decides (name_of op) name).0 (find-passes (λ op. bytes_eq (name_of op) name) op all_ops e)

pub number_of-injective : (a b : Op) → number_of a ≡ number_of b → a ≡ b
number_of-injective a b same =
    let found : Some a ≡ Some b = sym (numbered a) ∙ ap op_numbered same ∙ numbered b in
    cc

pub name_of-injective : (a b : Op) → name_of a ≡ name_of b → a ≡ b
name_of-injective a b same =
    let found : Some a ≡ Some b = sym (named a) ∙ ap op_with_name same ∙ named b in
    cc
