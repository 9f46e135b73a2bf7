use Rattle.std.proofs.Common.{◌≡◌, Ok, Err, ◌∙◌, ap, arith, refl}
use Rattle.std.proofs.lemmas.Result.{err_from_is_err_and}
use Rattle.jam_codec.specs.Format.{whole}
use Rattle.jam_codec.specs.FormatLaws.{whole-found, whole-again, whole-refused}
use Rattle.blob_decode.specs.Program.{Program, program_blob}
use Rattle.blob_decode.specs.declared.program.ProgramRefusal.{ProgramRefusal}
use Rattle.blob_decode.specs.declared.program.ProgramRefusal.TheVariants.{NotProgram}
use Rattle.blob_decode.specs.Kept.{program_of}
use Rattle.blob_decode.specs.BlobLaws.{program_blob_laws}
use Rattle.blob_decode.proofs.program.Program.parsed.Goals as goal

pub returns-clause-found : goal.returns-clause-found
returns-clause-found c =
    let kept : Program = program_of c.in_ok-parts.parts.count c.in_ok-parts.parts.width c.in_ok-table.table.items c.in_ok-code.code.items c.in_ok-mask.mask.items in
    let same : program_of c.in_ok-parts.parts.count c.in_ok-parts.parts.width c.in_ok-parts.parts.table.now c.in_ok-parts.parts.code.now c.in_ok-parts.parts.mask.now ≡ kept =
    rw (c.in_ok-table.ensures.items, c.in_ok-code.ensures.items, c.in_ok-mask.ensures.items) refl in
    let read : whole program_blob c.args.bytes.now ≡ Ok kept = c.in_ok-parts.ensures.exact ∙ ap (λ (p : Program). Ok p) same in
    whole-found program_blob program_blob_laws c.args.bytes.now kept (λ k. omega (arith, c.type_inv.bytes k)) read

pub returns-in_err-parts-clause-place : goal.returns-in_err-parts-clause-place
returns-in_err-parts-clause-place c =
    let refusal : (y : ProgramRefusal) × (c.from_residual.result ≡ Err y) × (y ≡ NotProgram c.in_err-parts.field-0.0.place) =
    err_from_is_err_and c.from_residual.result c.from_residual.ensures.1 in
    let is : c.from_residual.result ≡ Err (NotProgram c.in_err-parts.field-0.0.place) = refusal.1 ∙ ap (λ (y : ProgramRefusal). Err y) refusal.2 in
    rw is (whole-refused program_blob program_blob_laws c.args.bytes.now c.in_err-parts.field-0.0.place (λ k. omega (arith, c.type_inv.bytes k)) c.in_err-parts.ensures.exact)

pub returns-in_err-parts-clause-refused : goal.returns-in_err-parts-clause-refused
returns-in_err-parts-clause-refused c = λ p spells place e.
    let read : whole program_blob c.args.bytes.now ≡ Ok p = whole-again program_blob program_blob_laws c.args.bytes.now p spells in
    let fault : whole program_blob c.args.bytes.now ≡ Err c.in_err-parts.field-0.0.place = c.in_err-parts.ensures.exact in
    cc
