-- Written by tools/gen/sql-proofs from src/table_texts.rt of desk_records. What it makes is proved; the tool is not trusted.
-- The text that makes each table.
use Rattle.std.specs.Prelude.{ℕ, List}
use Rattle.desk_records.specs.Schema.{Place, Desk, Modules, Sets, SetModules, Artifacts, Pieces, Targets, TargetTags, TargetAttributes, Rollouts}
use Rattle.desk_records.specs.Schema.{Members, Groups, Actions, Feedbacks, Offers, Rules, Numbers}
use Rattle.desk_records.specs.declared.table_texts.TheConstants.{CREATE_DESK, CREATE_MODULE, CREATE_SET, CREATE_SET_MODULE, CREATE_ARTIFACT}
use Rattle.desk_records.specs.declared.table_texts.TheConstants.{CREATE_PIECE, CREATE_TARGET, CREATE_TARGET_TAG, CREATE_TARGET_ATTRIBUTE}
use Rattle.desk_records.specs.declared.table_texts.TheConstants.{CREATE_ROLLOUT, CREATE_MEMBER, CREATE_ROLLOUT_GROUP, CREATE_ACTION, CREATE_FEEDBACK}
use Rattle.desk_records.specs.declared.table_texts.TheConstants.{CREATE_OFFER, CREATE_GROUP_RULE, CREATE_FEEDBACK_NUMBER}

abbrev pub create_text_of : Place → List ℕ
create_text_of Desk = CREATE_DESK.now
create_text_of Modules = CREATE_MODULE.now
create_text_of Sets = CREATE_SET.now
create_text_of SetModules = CREATE_SET_MODULE.now
create_text_of Artifacts = CREATE_ARTIFACT.now
create_text_of Pieces = CREATE_PIECE.now
create_text_of Targets = CREATE_TARGET.now
create_text_of TargetTags = CREATE_TARGET_TAG.now
create_text_of TargetAttributes = CREATE_TARGET_ATTRIBUTE.now
create_text_of Rollouts = CREATE_ROLLOUT.now
create_text_of Members = CREATE_MEMBER.now
create_text_of Groups = CREATE_ROLLOUT_GROUP.now
create_text_of Actions = CREATE_ACTION.now
create_text_of Feedbacks = CREATE_FEEDBACK.now
create_text_of Offers = CREATE_OFFER.now
create_text_of Rules = CREATE_GROUP_RULE.now
create_text_of Numbers = CREATE_FEEDBACK_NUMBER.now
