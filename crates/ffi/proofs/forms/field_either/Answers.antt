use Rattle.ffi.proofs.Either.{longer_form, longer_whole, ninety_whole, shorter_form}
use Rattle.ffi.proofs.forms.field_either.Goals as goal

pub field_by-requires-clause-whole : goal.field_by-requires-clause-whole
field_by-requires-clause-whole c = longer_whole

pub field_by-requires-clause-fits : goal.field_by-requires-clause-fits
field_by-requires-clause-fits c = longer_form c.args.stored.now c.if-stored-eq-LONGER_LENGTH.true

pub field_by-requires-else-stored-eq-LONGER_LENGTH-clause-whole : goal.field_by-requires-else-stored-eq-LONGER_LENGTH-clause-whole
field_by-requires-else-stored-eq-LONGER_LENGTH-clause-whole c = ninety_whole

pub field_by-requires-else-stored-eq-LONGER_LENGTH-clause-fits : goal.field_by-requires-else-stored-eq-LONGER_LENGTH-clause-fits
field_by-requires-else-stored-eq-LONGER_LENGTH-clause-fits c = shorter_form c.args.stored.now c.if-stored-eq-LONGER_LENGTH.false
