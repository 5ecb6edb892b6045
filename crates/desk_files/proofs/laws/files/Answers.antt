use Rattle.desk_files.proofs.TableFacts.{joined, tables}
use Rattle.desk_files.proofs.laws.files.Goals as goal

pub returns-clause-tags_are_joined : goal.returns-clause-tags_are_joined
returns-clause-tags_are_joined c = joined

pub returns-clause-tables_are_csv : goal.returns-clause-tables_are_csv
returns-clause-tables_are_csv c = tables
