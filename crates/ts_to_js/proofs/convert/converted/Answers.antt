use Rattle.ts_to_js.proofs.Conversions.{answered-conversion, answered-valid}
use Rattle.ts_to_js.proofs.convert.converted.Goals as goal

pub returns-clause-conversion : goal.returns-clause-conversion
returns-clause-conversion c =
    answered-conversion c.converted_modules_do_what_their_sources_do.ensures c.args.options.now.config c.args.session.now.left c.args.src.now c.convert_bytes.result c.convert_bytes.ensures.text

pub returns-clause-valid : goal.returns-clause-valid
returns-clause-valid c =
    answered-valid c.args.options.now.config c.args.session.now.left c.args.src.now c.convert_bytes.result c.convert_bytes.ensures.text
