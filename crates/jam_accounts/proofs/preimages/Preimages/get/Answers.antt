use Rattle.std.proofs.Common.{ap, sym, ◌∙◌, Some, option_map, Vec, ℕ, List, Global}
use Rattle.std.specs.FinMap as fin
use Rattle.std.specs.Cmp.Lexicographic.{nat_list_cmp_total}
use Rattle.blake2b_core.specs.Blake2b.{digest}
use Rattle.jam_accounts.specs.Accounts.{bytes_cmp}
use Rattle.jam_accounts.specs.MapLaws.{got}
use Rattle.jam_accounts.proofs.preimages.Preimages.get.Goals as goal

pub returns-in-Some-clause-value : goal.returns-in-Some-clause-value
returns-in-Some-clause-value c =
    ap Some c.as_slice.ensures.value ∙ ap (option_map (λ (v : Vec ℕ Global). v.items)) c.in-Some.ensures.value
    ∙ sym (got bytes_cmp (λ (k : List ℕ). k) (λ (v : Vec ℕ Global). v.items) nat_list_cmp_total c.self.inside.map c.args.hash.now) ∙ ap (λ m. fin.get m c.args.hash.now) c.self.view_is

pub returns-in-Some-clause-preimage : goal.returns-in-Some-clause-preimage
returns-in-Some-clause-preimage c =
    c.self.invariant c.args.hash.now c.in-Some.bytes.now.items (got bytes_cmp (λ (k : List ℕ). k) (λ (v : Vec ℕ Global). v.items) nat_list_cmp_total c.self.inside.map c.args.hash.now ∙ sym (ap (option_map (λ (v : Vec ℕ Global). v.items)) c.in-Some.ensures.value))
    ∙ ap digest (sym c.as_slice.ensures.value)

pub returns-in-None-clause-value : goal.returns-in-None-clause-value
returns-in-None-clause-value c =
    ap (option_map (λ (v : Vec ℕ Global). v.items)) c.in-None.ensures.value
    ∙ sym (got bytes_cmp (λ (k : List ℕ). k) (λ (v : Vec ℕ Global). v.items) nat_list_cmp_total c.self.inside.map c.args.hash.now) ∙ ap (λ m. fin.get m c.args.hash.now) c.self.view_is
