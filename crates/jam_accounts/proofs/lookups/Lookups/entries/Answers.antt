use Rattle.std.proofs.Common.{ap, sym, ◌∙◌, ℕ, List}
use Rattle.std.specs.FinMap as fin
use Rattle.jam_accounts.specs.Seen.{seen_entries}
use Rattle.jam_codec.specs.Lists.{hash_and_number_cmp}
use Rattle.jam_accounts.specs.MapLaws.{entries_seen}
use Rattle.jam_codec.specs.FormatLaws.{hash_and_number_total}
use Rattle.jam_accounts.proofs.lookups.Lookups.entries.Goals as goal

pub returns : goal.returns
returns c =
    ap (seen_entries (λ (k : List ℕ × ℕ). k) (λ (v : List ℕ). v)) c.iter.ensures.rest
    ∙ sym (entries_seen hash_and_number_cmp (λ (k : List ℕ × ℕ). k) (λ (v : List ℕ). v) hash_and_number_total c.self.inside.map c.iter.ensures.ordered)
    ∙ ap fin.entries c.self.view_is
