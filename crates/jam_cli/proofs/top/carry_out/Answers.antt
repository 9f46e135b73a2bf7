use Rattle.std.proofs.Common.{◌∙◌, ap, sym, subst}
use Rattle.std.proofs.lemmas.Result.{err_from_is_err_and}
use Rattle.jam_outside.specs.Causes.{Appends}
use Rattle.jam_cli.specs.Parts.{asked, plain_inputs, plain_product, AreFiles, AreKeptFiles, NotPrinted, entry_stored}
use Rattle.jam_cli.proofs.Carried.{were_read, spell_ends, makes, print_ends, store_ends}
use Rattle.jam_cli.proofs.top.carry_out.Goals as goal

pub work_of-requires-clause-kept : goal.work_of-requires-clause-kept
work_of-requires-clause-kept g c = subst AreKeptFiles (sym c.deref-2.ensures.value) c.in_ok-files.ensures.keeps

pub returns-in_err-work : goal.returns-in_err-work
returns-in_err-work g c =
    let refused = err_from_is_err_and c.from_residual-in_err-work.result c.from_residual-in_err-work.ensures.1 in
    let is = ap plain_inputs c.deref.ensures.value ∙ c.requires.0 in
    let read = c.in_ok-files.ensures.read in
    let are = subst (λ fs. AreFiles fs read.files) (sym c.deref-2.ensures.value) read.are in
    rw (refused.1, refused.2) (spell_ends (asked c.args.line.now.command) c.in_err-work.field-0.0 (g.V.Vault.state c.args.vault.now) _ _ read.files
    (read.inputs ∙ is) (were_read _ (g.V.Vault.state c.args.vault.now) _ read.files is read.read) c.in_ok-files.ensures.kept (c.in_err-work.ensures read.files are))

pub returns-in_err-print : goal.returns-in_err-print
returns-in_err-print g c =
    let refused = err_from_is_err_and c.from_residual-in_err-print.result c.from_residual-in_err-print.ensures.1 in
    let is = ap plain_inputs c.deref.ensures.value ∙ c.requires.0 in
    let read = c.in_ok-files.ensures.read in
    let are = subst (λ fs. AreFiles fs read.files) (sym c.deref-2.ensures.value) read.are in
    let made = makes (asked c.args.line.now.command) (g.V.Vault.state c.args.vault.now) read.files (plain_product c.in_ok-work.work)
    (were_read _ (g.V.Vault.state c.args.vault.now) _ read.files is read.read) (c.in_ok-work.ensures read.files are) in
    rw (refused.1, refused.2) (print_ends (asked c.args.line.now.command) c.in_err-print.field-0.0 (g.V.Vault.state c.args.vault.now) _ _ _ (plain_product c.in_ok-work.work) made c.in_ok-files.ensures.kept
    (subst (λ text. NotPrinted c.in_err-print.field-0.0 (g.S.Sink.state c.args.out.now) (g.S.Sink.state c.print.new.out) text) c.deref-3.ensures.value c.in_err-print.ensures.refused))

pub returns-in_err-store : goal.returns-in_err-store
returns-in_err-store g c =
    let refused = err_from_is_err_and c.from_residual-in_err-store.result c.from_residual-in_err-store.ensures.1 in
    let is = ap plain_inputs c.deref.ensures.value ∙ c.requires.0 in
    let read = c.in_ok-files.ensures.read in
    let are = subst (λ fs. AreFiles fs read.files) (sym c.deref-2.ensures.value) read.are in
    let made = makes (asked c.args.line.now.command) (g.V.Vault.state c.args.vault.now) read.files (plain_product c.in_ok-work.work)
    (were_read _ (g.V.Vault.state c.args.vault.now) _ read.files is read.read) (c.in_ok-work.ensures read.files are) in
    rw (refused.1, refused.2) (store_ends (asked c.args.line.now.command) c.in_err-store.field-0.0 (g.V.Vault.state c.args.vault.now) _ _ _ _ (plain_product c.in_ok-work.work) made c.in_ok-files.ensures.kept
    (subst (λ text. Appends (g.S.Sink.state c.args.out.now).taken (g.S.Sink.state c.print.new.out).taken text) c.deref-3.ensures.value c.in_ok-print.ensures.all) c.in_ok-print.ensures.kept
    c.in_err-store.ensures.refused)

pub returns : goal.returns
returns g c =
    let is = ap plain_inputs c.deref.ensures.value ∙ c.requires.0 in
    let read = c.in_ok-files.ensures.read in
    let are = subst (λ fs. AreFiles fs read.files) (sym c.deref-2.ensures.value) read.are in
    let made = makes (asked c.args.line.now.command) (g.V.Vault.state c.args.vault.now) read.files (plain_product c.in_ok-work.work)
    (were_read _ (g.V.Vault.state c.args.vault.now) _ read.files is read.read) (c.in_ok-work.ensures read.files are) in (
      plain_product c.in_ok-work.work,
      made,
      (subst (λ text. Appends (g.S.Sink.state c.args.out.now).taken (g.S.Sink.state c.print.new.out).taken text) c.deref-3.ensures.value c.in_ok-print.ensures.all, c.in_ok-print.ensures.kept),
      c.in_ok-store.ensures.all ∙ ap (entry_stored (plain_product c.in_ok-work.work).entry) c.in_ok-files.ensures.kept,
    )
