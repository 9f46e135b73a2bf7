-- The registers that arguments name are below 13.
use Rattle.std.proofs.Common.{◌≡◌, ℕ, ◌<◌, List, arith, sym, subst}
use Rattle.pvm_isa.specs.declared.arguments.Args.{Args}
use Rattle.pvm_isa.specs.declared.form.Form.{Form}
use Rattle.pvm_isa.specs.declared.form.Form.TheVariants.{F1}
use Rattle.pvm_isa.specs.Arguments.{arguments}

abbrev Bounded : Args → Type 0
Bounded args = (args.a < 13) × (args.b < 13) × (args.d < 13)

bounded : (form : Form) (code : List ℕ) (i l : ℕ) → Bounded (arguments form code i l)
unfolding arguments
bounded F1 code i l = (omega arith, omega arith, omega arith)
bounded _ code i l = (omega arith, omega arith, omega arith)

pub a_below : (args : Args) (form : Form) (code : List ℕ) (i l : ℕ) → args ≡ arguments form code i l → args.a < 13
a_below args form code i l is = (subst Bounded (sym is) (bounded form code i l)).0

pub b_below : (args : Args) (form : Form) (code : List ℕ) (i l : ℕ) → args ≡ arguments form code i l → args.b < 13
b_below args form code i l is = (subst Bounded (sym is) (bounded form code i l)).1

pub d_below : (args : Args) (form : Form) (code : List ℕ) (i l : ℕ) → args ≡ arguments form code i l → args.d < 13
d_below args form code i l is = (subst Bounded (sym is) (bounded form code i l)).2
