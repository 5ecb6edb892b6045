use Rattle.csv.proofs.OnLiterals.{csv_on_literals}
use Rattle.desk_files.proofs.Common.{refl}
use Rattle.std.specs.Fmt.{digits}
use Rattle.std.specs.Str.{chars, is_utf8}
use Rattle.desk_files.proofs.laws.worked_files.Goals as goal

pub returns-clause-import : goal.returns-clause-import
unfolding csv_on_literals is_utf8 chars lib.Utf8.encode
returns-clause-import c = refl

pub returns-clause-fault : goal.returns-clause-fault
unfolding csv_on_literals is_utf8 chars lib.Utf8.encode
returns-clause-fault c = refl

pub returns-clause-report : goal.returns-clause-report
unfolding digits
returns-clause-report c = refl

pub returns-clause-table : goal.returns-clause-table
unfolding digits
returns-clause-table c = refl
