use Rattle.std.proofs.Common.{◌≡◌, ap, sym, subst, ◌∙◌, Vec, ℕ, List, Global}
use Rattle.std.specs.FinMap as fin
use Rattle.std.specs.Cmp.Lexicographic.{nat_list_cmp_total}
use Rattle.blake2b_core.specs.Blake2b.{digest}
use Rattle.jam_accounts.specs.Accounts.{StandUnderDigests, bytes_cmp}
use Rattle.jam_accounts.specs.MapLaws.{on_err, nothing_seen, inserted, of_inserted, bytes_same}
use Rattle.jam_accounts.proofs.preimages.Preimages.put_under.Goals as goal

pub invariant_of-self-2 : goal.invariant_of-self-2
invariant_of-self-2 c =
    subst StandUnderDigests (sym (inserted bytes_cmp (λ (k : List ℕ). k) (λ (v : Vec ℕ Global). v.items) nat_list_cmp_total bytes_same c.self.inside.map c.insert.new.self c.args.hash c.args.bytes c.in_ok-insert.ensures.entries))
    (of_inserted (λ (hash bytes : List ℕ). hash ≡ digest bytes) nat_list_cmp_total bytes_same _ c.args.hash c.args.bytes.items c.self.invariant c.requires)

pub returns-clause-ok : goal.returns-clause-ok
returns-clause-ok c =
    inserted bytes_cmp (λ (k : List ℕ). k) (λ (v : Vec ℕ Global). v.items) nat_list_cmp_total bytes_same c.self.inside.map c.insert.new.self c.args.hash c.args.bytes c.in_ok-insert.ensures.entries
    ∙ ap (λ m. fin.insert m c.args.hash c.args.bytes.items) c.self.view_is

pub returns-in_err-insert-clause-absent : goal.returns-in_err-insert-clause-absent
returns-in_err-insert-clause-absent c =
    on_err c.from_residual.result (sym (ap (λ m. fin.get m c.args.hash) c.self.view_is) ∙ nothing_seen bytes_cmp (λ (k : List ℕ). k) (λ (v : Vec ℕ Global). v.items) nat_list_cmp_total c.self.inside.map c.args.hash c.in_err-insert.ensures.absent)
