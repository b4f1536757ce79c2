use Rattle.round_reader.proofs.Digits.{no_sum_where_err}
use Rattle.round_reader.proofs.sums.sum_in.Goals as goal

pub returns-in_default-clause-none : goal.returns-in_default-clause-none
returns-in_default-clause-none c = no_sum_where_err c.args.field.now c.trimmed-bytes.result.now _ c.from_utf8.result c.in_default.field-0 c.trimmed-bytes.ensures c.in_default.is c.from_utf8.ensures.cases
