-- The limits, in one table.
use Rattle.std.specs.Prelude.{ℕ}

pub record Limits : Type 0 where
  pub modules : ℕ
  pub module_artifacts : ℕ
  pub artifacts : ℕ
  pub sets : ℕ
  pub set_modules : ℕ
  pub targets : ℕ
  pub tags : ℕ
  pub attributes : ℕ
  pub rollouts : ℕ
  pub groups : ℕ
  pub notes : ℕ
  pub percentage : ℕ
  pub word_length : ℕ
  pub filename_length : ℕ
  pub text_length : ℕ
  pub detail_length : ℕ
  pub details : ℕ
  pub digest_length : ℕ
  pub number : ℕ
  pub feedback_number : ℕ
  pub filter_length : ℕ
  pub filter_depth : ℕ
  pub token_length_least : ℕ
  pub token_length : ℕ
  pub body_length : ℕ
  pub head_length : ℕ
  pub file_length : ℕ
  pub artifact_size : ℕ
  pub fields : ℕ
  pub page : ℕ
  pub page_default : ℕ
  pub posted_targets : ℕ
  pub piece_length : ℕ

-- lengths and sizes are in bytes
abbrev pub limits : Limits
limits = record {
  modules = 1000;
  module_artifacts = 8;  -- of one module
  artifacts = 256;
  sets = 1000;
  set_modules = 8;  -- of one set
  targets = 10000;
  tags = 16;  -- of one target
  attributes = 32;  -- of one target
  rollouts = 1000;
  groups = 50;  -- of one rollout
  notes = 100;  -- on one action
  percentage = 100;  -- a percentage is from 1 to this
  word_length = 64;
  filename_length = 128;
  text_length = 128;
  detail_length = 256;
  details = 8;  -- of one feedback
  digest_length = 32;
  number = 2147483647;  -- in a path, a query or a body
  feedback_number = 4294967295;  -- a number that a device gives its feedback
  filter_length = 512;
  filter_depth = 16;  -- how deep the parentheses of a filter nest
  token_length_least = 8;  -- of a device's token
  token_length = 64;
  body_length = 4194304;  -- of a request
  head_length = 8192;  -- of a request
  file_length = 4194304;  -- a file of targets that is imported: what a body hands in
  artifact_size = 4194304;  -- an artifact's contents: what a body hands in
  fields = 32;  -- of a head
  page = 500;  -- the entries of a page
  page_default = 50;
  posted_targets = 100;  -- the objects of one request that adds targets
  piece_length = 65536;  -- a piece of an artifact's contents
}
