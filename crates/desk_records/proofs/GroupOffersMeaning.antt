-- What the text means that offers the actions of a group, wherever its two tables stand.
use Rattle.desk_records.proofs.Common.{◌≡◌, refl, List, [], ◌∷◌, ℕ, codes, Ok, pos, negsuc, false, Binary, Schema, Command, InsertOr, Query, Term, lit, col}
use Rattle.desk_records.proofs.Common.{Queried, op2, Compare, Lt, key_at, Stands, Means, simple, by, action_table, offer_table}
use Rattle.sqlite.specs.declared.types.Value.TheVariants.{Null, Int}
use Rattle.sqlite_schema.specs.declared.command.Conflict.TheVariants.{Abort}
use Rattle.sqlite_tied.specs.Compute.{everything}
use Rattle.sqlite_resolve.specs.Compile.{first}
use Rattle.sqlite_resolve.specs.Expr.{combine}
use Rattle.sqlite_resolve.specs.Select.{named, paging}
use Rattle.sqlite_resolve.specs.Write.{places, as_row, updated_in}
use Rattle.sql_front.proofs.Upsert.{Upserts, upserts_known, upsert_of}
use Rattle.desk_records.specs.declared.action_texts.TheConstants.{PUT_GROUP_OFFERS}
use Rattle.desk_records.proofs.MeaningWords.{means_of, is_equal, at_key, at_least, at_most}

-- the actions of a rollout between two places
abbrev pub in_group : List Term
in_group = at_key 2 0 ∷ at_least 3 1 ∷ at_most 3 2 ∷ []

-- .. as rows of offers, none of them a cancel
abbrev pub group_columns : List Term
group_columns = lit Null ∷ col 1 4 ∷ col 1 0 ∷ lit (Int (pos 0)) ∷ []

abbrev pub group_query : ℕ → Query
group_query tree = record (by (simple tree in_group group_columns) ((col 1 0, record { descending = false; collation = Binary }) ∷ []) (lit (Int (negsuc 0)))
    (lit (Int (pos 0)))) { collations = Binary ∷ Binary ∷ Binary ∷ Binary ∷ [] }

-- the row that has the key, if the new action is less
abbrev pub takes_lesser : List Term
takes_lesser = op2 (Compare Lt Binary) (col 0 6) (col 1 2) ∷ is_equal (col 1 0) (col 0 3) ∷ []

abbrev pub taken_columns : List Term
taken_columns = col 1 1 ∷ col 0 6 ∷ col 0 7 ∷ []

abbrev pub taking_query : ℕ → Query
taking_query tree = simple tree takes_lesser (col 1 0 ∷ col 1 0 ∷ taken_columns)

abbrev pub put_group_offers_command : ℕ → ℕ → ℕ → Command
put_group_offers_command at tree from = InsertOr at Abort (Queried (record { lets = []; body = group_query from }))
    (upsert_of (1 ∷ []) (taking_query tree) ∷ [])

put_group_offers_upserts : (tree from : ℕ) → Upserts PUT_GROUP_OFFERS.now (codes "offer") (offer_table tree) (codes "action") (action_table from)
    (group_query from) (1 ∷ []) (taking_query tree)
unfolding first combine named paging places as_row updated_in everything
put_group_offers_upserts tree from = record {
  parsed = _;
  columns = _;
  select = _;
  clause = _;
  parses = (refl, refl, refl);
  fills = record {
    page = _;
    shown = _;
    is = (refl, refl);
    one = record {
      from = record { source = _; is = refl; table = refl; alias = refl; on = refl; using = refl; is_inner = refl };
      group = refl;
      having = refl;
      shown = (tt, (tt, (tt, tt)));
      filter = (
        (refl, λ cx how x y. refl),
        ((refl, λ cx how x y. refl), ((refl, λ cx how x y. refl), tt, tt), ((refl, λ cx how x y. refl), tt, tt)),
        ((refl, λ cx how x y. refl), tt, tt),
      );
      sorts = (tt, tt);
    };
    paged = λ s. refl;
    named = (refl, refl);
    at = _;
    terms = _;
    by = _;
    placed = (refl, refl);
    becomes = (refl, refl, refl);
  };
  aimed = (refl, refl, refl);
  values = (tt, (tt, tt));
  filter = ((refl, λ cx how x y. refl), tt, tt);
  draft = _;
  updated = refl;
  sets = (refl, refl, refl);
}

pub put_group_offers_is : (s : Schema) (at tree there from : ℕ) → Stands s (codes "offer") at (offer_table tree)
    → Stands s (codes "action") there (action_table from) → key_at s (offer_table tree) (1 ∷ []) ≡ Ok (1 ∷ [])
    → Means s PUT_GROUP_OFFERS.now (put_group_offers_command at tree from)
put_group_offers_is s at tree there from stands stands_there key =
    means_of s PUT_GROUP_OFFERS.now _ (upserts_known _ _ (offer_table tree) _ _ _ _ _ (put_group_offers_upserts tree from) s at there stands stands_there key)
    refl refl
