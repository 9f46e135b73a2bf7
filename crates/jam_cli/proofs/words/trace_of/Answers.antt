use Rattle.std.proofs.Common.{Err, ap, sym, subst}
use Rattle.std.proofs.lemmas.Result.{err_from_is_err_and}
use Rattle.jam_cli.specs.Table.{IsHexadecimal, texts}
use Rattle.jam_cli.proofs.TraceWords.{refused, entry_word, gas_word, bytes_word, last_word}
use Rattle.jam_cli.proofs.words.trace_of.Goals as goal

pub returns-in_err-entry : goal.returns-in_err-entry
returns-in_err-entry c =
    refused (texts c.args.words.now) c.from_residual-in_err-entry.result c.in_err-entry.field-0.0 (err_from_is_err_and c.from_residual-in_err-entry.result c.from_residual-in_err-entry.ensures.1)
    (λ other arguments asks.
    c.in_err-entry.ensures.other (ap Err other) arguments.1.0 asks.fit.1.0.0 asks.fit.1.0.1
    (entry_word c.args.words.now c.entry-item.result arguments asks.words_are.1 c.entry-item.is))

pub returns-in_err-gas : goal.returns-in_err-gas
returns-in_err-gas c =
    refused (texts c.args.words.now) c.from_residual-in_err-gas.result c.in_err-gas.field-0.0 (err_from_is_err_and c.from_residual-in_err-gas.result c.from_residual-in_err-gas.ensures.1)
    (λ other arguments asks.
    c.in_err-gas.ensures.other (ap Err other) arguments.1.1.0 asks.fit.1.1.0.1
    (gas_word c.args.words.now c.gas-item.result arguments asks.words_are.1 c.gas-item.is))

pub returns-in_err-bytes : goal.returns-in_err-bytes
returns-in_err-bytes c =
    refused (texts c.args.words.now) c.from_residual-in_err-bytes.result c.in_err-bytes.field-0.0 (err_from_is_err_and c.from_residual-in_err-bytes.result c.from_residual-in_err-bytes.ensures.1)
    (λ other arguments asks.
    c.in_err-bytes.ensures.other (ap Err other) arguments.1.1.1.0 asks.fit.1.1.1.0
    (subst (IsHexadecimal arguments.1.1.1.0) (sym c.as_str.ensures.value) (bytes_word c.args.words.now c.args-item.result arguments asks.words_are.1 c.args-item.is)))

pub returns-in_err-value : goal.returns-in_err-value
returns-in_err-value c =
    refused (texts c.args.words.now) c.from_residual-in_err-value.result c.in_err-value.field-0.0 (err_from_is_err_and c.from_residual-in_err-value.result c.from_residual-in_err-value.ensures.1)
    (λ other arguments asks.
    c.in_err-value.ensures.other (ap Err other) arguments.1.1.1.1.0 asks.fit.1.1.1.1.0.0 asks.fit.1.1.1.1.0.1
    (last_word c.args.words.now c.last-item.result arguments asks.words_are.1 c.last-item.is))
