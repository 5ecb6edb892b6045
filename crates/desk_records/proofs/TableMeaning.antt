-- Written by tools/gen/sql-proofs from src/table_texts.rt of desk_records. What it makes is proved; the tool is not trusted.
-- Each text makes its table.
use Rattle.std.proofs.Common.{refl}
use Rattle.sqlite_tied.specs.Compute.{everything}
use Rattle.sqlite_resolve.specs.Compile.{first, is_reserved}
use Rattle.sql_front.proofs.Write.{Makes}
use Rattle.desk_records.specs.Schema.{Place, Desk, Modules, Sets, SetModules, Artifacts, Pieces, Targets, TargetTags, TargetAttributes, Rollouts}
use Rattle.desk_records.specs.Schema.{Members, Groups, Actions, Feedbacks, Offers, Rules, Numbers, name_of, table_at}
use Rattle.desk_records.specs.TableTexts.{create_text_of}

pub creates : (t : Place) → Makes (create_text_of t) (name_of t) (table_at t 0)
unfolding first is_reserved everything
creates Desk = record { parsed = _; made = _; read = refl; statement = refl; named = refl; unreserved = refl; defined = refl; whole = refl }
creates Modules = record { parsed = _; made = _; read = refl; statement = refl; named = refl; unreserved = refl; defined = refl; whole = refl }
creates Sets = record { parsed = _; made = _; read = refl; statement = refl; named = refl; unreserved = refl; defined = refl; whole = refl }
creates SetModules = record { parsed = _; made = _; read = refl; statement = refl; named = refl; unreserved = refl; defined = refl; whole = refl }
creates Artifacts = record { parsed = _; made = _; read = refl; statement = refl; named = refl; unreserved = refl; defined = refl; whole = refl }
creates Pieces = record { parsed = _; made = _; read = refl; statement = refl; named = refl; unreserved = refl; defined = refl; whole = refl }
creates Targets = record { parsed = _; made = _; read = refl; statement = refl; named = refl; unreserved = refl; defined = refl; whole = refl }
creates TargetTags = record { parsed = _; made = _; read = refl; statement = refl; named = refl; unreserved = refl; defined = refl; whole = refl }
creates TargetAttributes = record { parsed = _; made = _; read = refl; statement = refl; named = refl; unreserved = refl; defined = refl; whole = refl }
creates Rollouts = record { parsed = _; made = _; read = refl; statement = refl; named = refl; unreserved = refl; defined = refl; whole = refl }
creates Members = record { parsed = _; made = _; read = refl; statement = refl; named = refl; unreserved = refl; defined = refl; whole = refl }
creates Groups = record { parsed = _; made = _; read = refl; statement = refl; named = refl; unreserved = refl; defined = refl; whole = refl }
creates Actions = record { parsed = _; made = _; read = refl; statement = refl; named = refl; unreserved = refl; defined = refl; whole = refl }
creates Feedbacks = record { parsed = _; made = _; read = refl; statement = refl; named = refl; unreserved = refl; defined = refl; whole = refl }
creates Offers = record { parsed = _; made = _; read = refl; statement = refl; named = refl; unreserved = refl; defined = refl; whole = refl }
creates Rules = record { parsed = _; made = _; read = refl; statement = refl; named = refl; unreserved = refl; defined = refl; whole = refl }
creates Numbers = record { parsed = _; made = _; read = refl; statement = refl; named = refl; unreserved = refl; defined = refl; whole = refl }
