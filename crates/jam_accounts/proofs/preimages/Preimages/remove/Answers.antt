use Rattle.std.proofs.Common.{◌≡◌, ap, sym, subst, ◌∙◌, option_map, Vec, ℕ, List, Global}
use Rattle.std.specs.FinMap as fin
use Rattle.std.specs.Cmp.Lexicographic.{nat_list_cmp_total}
use Rattle.blake2b_core.specs.Blake2b.{digest}
use Rattle.jam_accounts.specs.Accounts.{StandUnderDigests, bytes_cmp}
use Rattle.jam_accounts.specs.MapLaws.{got, removed, of_removed, bytes_same}
use Rattle.jam_accounts.proofs.preimages.Preimages.remove.Goals as goal

pub invariant_of-self : goal.invariant_of-self
invariant_of-self c =
    subst StandUnderDigests (sym (removed bytes_cmp (λ (k : List ℕ). k) (λ (v : Vec ℕ Global). v.items) nat_list_cmp_total bytes_same c.self.inside.map c.remove.new.self c.args.hash.now c.remove.ensures.updates))
    (of_removed (λ (hash bytes : List ℕ). hash ≡ digest bytes) nat_list_cmp_total _ c.args.hash.now c.self.invariant)

pub returns-clause-value : goal.returns-clause-value
returns-clause-value c =
    ap (option_map (λ (v : Vec ℕ Global). v.items)) c.remove.ensures.value
    ∙ sym (got bytes_cmp (λ (k : List ℕ). k) (λ (v : Vec ℕ Global). v.items) nat_list_cmp_total c.self.inside.map c.args.hash.now) ∙ ap (λ m. fin.get m c.args.hash.now) c.self.view_is

pub returns-clause-after : goal.returns-clause-after
returns-clause-after c =
    removed bytes_cmp (λ (k : List ℕ). k) (λ (v : Vec ℕ Global). v.items) nat_list_cmp_total bytes_same c.self.inside.map c.remove.new.self c.args.hash.now c.remove.ensures.updates
    ∙ ap (λ m. fin.remove m c.args.hash.now) c.self.view_is
