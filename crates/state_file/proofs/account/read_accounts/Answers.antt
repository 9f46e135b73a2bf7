use Rattle.std.proofs.Common.{ℕ, sym, subst}
use Rattle.jam_codec.specs.Reading.{Reads}
use Rattle.jam_codec.specs.Refusal.{place_of}
use Rattle.state_file.specs.StateFile.{accounts_format}
use Rattle.state_file.proofs.Versions.{second}
use Rattle.state_file.proofs.account.read_accounts.Goals as goal

pub returns-then-version-eq-FIRST_VERSION-clause-exact : goal.returns-then-version-eq-FIRST_VERSION-clause-exact
returns-then-version-eq-FIRST_VERSION-clause-exact c =
    subst (λ (version : ℕ). Reads place_of (λ x. x) c.read_entries.result c.read_entries.new.cursor ((accounts_format version).read c.args.cursor.now)) (sym c.if-version-eq-FIRST_VERSION.true) c.read_entries.ensures.exact

pub returns-else-version-eq-FIRST_VERSION-clause-exact : goal.returns-else-version-eq-FIRST_VERSION-clause-exact
returns-else-version-eq-FIRST_VERSION-clause-exact c =
    let r = c.read_entries-else-version-eq-FIRST_VERSION in
    subst (λ (version : ℕ). Reads place_of (λ x. x) r.result r.new.cursor ((accounts_format version).read c.args.cursor.now)) (sym (second c.args.version c.requires c.if-version-eq-FIRST_VERSION.false)) r.ensures.exact
