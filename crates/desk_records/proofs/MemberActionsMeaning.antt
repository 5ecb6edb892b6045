-- What the text means that makes the actions of a rollout, wherever its two tables stand.
use Rattle.desk_records.proofs.Common.{refl, List, [], ◌∷◌, ℕ, codes, pos, false, Binary, Schema, Command, Insert, Query, Queried, Term, lit, col, Null, Int}
use Rattle.desk_records.proofs.Common.{Stands, Means, action_table}
use Rattle.sqlite_tied.specs.Compute.{everything}
use Rattle.sqlite_resolve.specs.Compile.{first}
use Rattle.sqlite_resolve.specs.Expr.{combine}
use Rattle.sqlite_resolve.specs.Select.{named, paging}
use Rattle.sqlite_resolve.specs.Write.{places, as_row}
use Rattle.sql_front.proofs.InsertSelect.{AddsFrom, adds_from_known}
use Rattle.desk_records.specs.Schema.{member_table}
use Rattle.desk_records.specs.declared.action_texts.TheConstants.{PUT_ACTIONS}
use Rattle.desk_records.proofs.MeaningWords.{in_order, means_of, no_limit, no_offset}
use Rattle.desk_records.proofs.RolloutMeaning.{of_rollout}

-- members as rows of actions that are open, without their numbers
abbrev pub new_action_columns : List Term
new_action_columns = lit Null ∷ lit Null ∷ col 1 1 ∷ col 1 2 ∷ col 1 3 ∷ lit (Int (pos 0)) ∷ lit (Int (pos 0)) ∷ lit (Int (pos 0)) ∷ lit (Int (pos 0)) ∷ []

abbrev pub member_query : ℕ → Query
member_query tree = record (in_order 2 false of_rollout new_action_columns no_limit no_offset tree) {
  collations = Binary ∷ Binary ∷ Binary ∷ Binary ∷ Binary ∷ Binary ∷ Binary ∷ Binary ∷ Binary ∷ [];
}

abbrev pub put_actions_command : ℕ → ℕ → Command
put_actions_command at from = Insert at (Queried (record { lets = []; body = member_query from }))

put_actions_adds : (tree from : ℕ) → AddsFrom PUT_ACTIONS.now (codes "action") (action_table tree) (codes "member") (member_table from) (member_query from)
unfolding first combine named paging places as_row everything
put_actions_adds tree from = record {
  parsed = _;
  columns = _;
  select = _;
  parses = (refl, refl, refl);
  fills = record {
    page = _;
    shown = _;
    is = (refl, refl);
    one = record {
      from = record { source = _; is = refl; table = refl; alias = refl; on = refl; using = refl; is_inner = refl };
      group = refl;
      having = refl;
      shown = (tt, (tt, (tt, (tt, (tt, (tt, (tt, tt)))))));
      filter = ((refl, λ cx how x y. refl), tt, tt);
      sorts = (tt, tt);
    };
    paged = λ s. refl;
    named = (refl, refl);
    at = _;
    terms = _;
    by = _;
    placed = (refl, refl);
    becomes = (refl, refl, refl);
  };
}

pub put_actions_is : (s : Schema) (at tree there from : ℕ) → Stands s (codes "action") at (action_table tree)
    → Stands s (codes "member") there (member_table from) → Means s PUT_ACTIONS.now (put_actions_command at from)
put_actions_is s at tree there from stands stands_there =
    means_of s PUT_ACTIONS.now _ (adds_from_known _ _ (action_table tree) _ _ _ (put_actions_adds tree from) s at there stands stands_there) refl refl
