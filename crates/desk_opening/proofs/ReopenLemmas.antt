-- From files that were opened to what the connection stands for.
use Rattle.desk_opening.proofs.Common.{◌≡◌, ◌⊎◌, inl, inr, ℕ, ◌+◌, Bool, false, Some, List, ◌∷◌, ◌∙◌, refl, Ok, Err, sym, subst, arith, ∥∥₁_elim, Trees, Schema}
use Rattle.desk_opening.proofs.Common.{Table, Image, HoldsDatabase, AreFoundIn, IsNothing, IsBlankAs, file_state, Held, Database, State, HasCleanDisk, Opens}
use Rattle.desk_opening.proofs.Common.{IsLive, AllZip, position_from, Row, IsSound, IsViewRow, same_name, is_used, Stands, HoldIn, Rests, still_holds}
use Rattle.desk_opening.proofs.Common.{LeavesFree, Records, desk_names, HoldsAt, Version, HoldsStage, Free, OpenFault, OpensDesk, HasDesk, HasNoDesk, HasRow}
use Rattle.desk_opening.proofs.Common.{IsFailure, IsNewerRow, FindsFault, IsSettled, Reopens, BeginsPlain, HoldsDesk, HoldsDeskAt, HoldsNone, UsesNoName}
use Rattle.std.proofs.Math.Bool.{Bool-set}
use mathlib.Core.HLevel.{Π_prop}
use Rattle.sqlite_trees.specs.Props.{Trees-set, AllByRecursion-prop}
use Rattle.sqlite.specs.Start.{FindsIn}
use Rattle.sqlite_disk.specs.declared.Disk as disk
use Rattle.sqlite_store.specs.declared.store.FileStore.{FileStore}
use Rattle.sqlite_store.specs.FileStore as store
use Rattle.sqlite_schema.specs.declared.schema.View.{View}
use Rattle.sqlite.specs.Files.{over_files}
use Rattle.sql_calls.specs.declared.calls.Calls.{Calls}
use Rattle.desk_opening.specs.Causes.{HasCause, IsHealthy}
use Rattle.desk_opening.specs.Counting.{AreReadable}
use Rattle.desk_opening.specs.Reopening.{RefusesCalls}
use Rattle.sql_calls.proofs.Schemas.{same_indexes, same_tables}
use Rattle.desk_opening.proofs.BlankLemmas.{nothing_is_unused}
use Rattle.sqlite_keyed.proofs.ListLemmas.{all_weaker}
use Rattle.desk_opening.proofs.HeldLemmas.{held_fails, free_fails}
use Rattle.desk_opening.proofs.Steps.{settled_at_rest}

-- ---- whichever schema an open finds

stands_over : (s z : Schema) (name : List ℕ) (at : ℕ) (table : Table) → z.tables ≡ s.tables → Stands s name at table → Stands z name at table
stands_over s z name at table same stands = grind arith

-- views are known by their names, which stand in the rows
same_views : (name : List ℕ) (k : ℕ) (rows : List Row) (xs ys : List View) → AllZip IsViewRow rows xs → AllZip IsViewRow rows ys
    → position_from (λ (x : View). same_name x.name name) k xs ≡ position_from (λ (y : View). same_name y.name name) k ys
same_views name k (row ∷ rows) (x ∷ xs) (y ∷ ys) h g = grind (arith, same_views name (k + 1) rows xs ys h.1 g.1)
same_views name k rows xs ys h g = grind arith

used_over : (s z : Schema) (trees : Trees) → IsSound s trees → IsSound z trees → (name : List ℕ) → is_used z name ≡ is_used s name
used_over s z trees was sound name =
    let views = same_views name 0 _ z.views s.views sound.lists.listed.views was.lists.listed.views in
    rw (same_tables z s trees sound was, same_indexes z s trees sound was, views) refl

free_over : (s z : Schema) (trees : Trees) → IsSound s trees → IsSound z trees → (names : List (List ℕ)) → LeavesFree s names → LeavesFree z names
free_over s z trees was sound = all_weaker _ (λ name. is_used z name ≡ false) (λ name free. used_over s z trees was sound name ∙ free)

-- it finds the records, in the same version
at_over : (v : Version) (z : Schema) (trees : Trees) (r : Records) → IsSound z trees → HoldIn (HoldsAt v) trees r
    → HoldsAt v (record { schema = z; trees = trees }) r
at_over v z trees r sound h5 = grind (arith, same_tables, all_weaker, stands_over, free_over, same_indexes)

-- ---- what was found

none_is_prop : (db : Trees) → IsProp (UsesNoName db)
none_is_prop db = Π_prop λ (s : Schema). Π_prop λ (sound : IsSound s db). AllByRecursion-prop (λ name. is_used s name ≡ false)
    (λ name. Bool-set (is_used s name) false) desk_names

module _ (image : Image) (found : Trees) (holds : (db : Trees) → HoldsDatabase image db → found ≡ db) where
  pub found_records : (Is : Trees → Type 0) → (db : Trees) × ∥ HoldsDatabase image db ∥₁ × Is db → Is found
  found_records Is has = subst Is (sym (∥∥₁_elim has.1 (Trees-set found has.0) (holds has.0))) has.2

  pub found_none : (IsNothing image → UsesNoName found) → HoldsNone HoldsDatabase image → UsesNoName found
  found_none nothing (inl empty) = nothing empty
  found_none nothing (inr has) = ∥∥₁_elim has (none_is_prop found) (λ it. subst UsesNoName (sym (holds it.0 it.1)) it.2)

-- the version of a desk
at_version : (image : Image) (r : Records) → HoldsDesk HoldsDatabase image r → (v : Version) × HoldsDeskAt HoldsDatabase v image r
at_version image r has = let held = has.2 in (held.1.0, (has.0, has.1, (held.0, held.1.1)))

module _ {image : Image} {old : State} (opened : HasCleanDisk old → Opens old × IsLive old) (found : HasCleanDisk old → FindsIn image old)
    (settled : IsSettled old) where
  rests_at : (v : Version) (r : Records) → HoldsDeskAt HoldsDatabase v image r → Rests (HoldsAt v) old r
  rests_at v r has clean = let it = opened clean in
      settled_at_rest (HoldsAt v) old r settled it.0 (at_over v old.committed.schema old.committed.trees r (it.1 it.0.is_open).1
      (found_records image old.committed.trees ((found clean).holds) (λ t. HoldIn (HoldsAt v) t r) has))

  rests_free : HoldsNone HoldsDatabase image → Rests HoldsStage old Free
  rests_free none clean = let it = opened clean in
      let sound = (it.1 it.0.is_open).1 in
      settled_at_rest HoldsStage old Free settled it.0 (
        sound,
        found_none image old.committed.trees ((found clean).holds)
            (λ nothing. nothing_is_unused image old.committed.trees nothing (found clean).reads) none old.committed.schema sound,
      )

  met : (Is : Database → Type 0) → HasCleanDisk old → Is old.now
      → (db : Trees) × AreFoundIn image db × ((schema : Schema) × IsSound schema db × Is (record { schema = schema; trees = db }))
  met Is clean is = let it = opened clean in
      (old.committed.trees, (found clean).reads, (old.committed.schema, (it.1 it.0.is_open).1, subst Is it.0.clean is))

  only_fails : (e : OpenFault) → HasCleanDisk old → FindsFault old.now e → ((r : Records) × HoldsDesk HoldsDatabase image r)
      ⊎ HoldsNone HoldsDatabase image → IsFailure e
  only_fails e clean finds (inl has) =
      let it = at_version image has.0 has.1 in
      held_fails old.now has.0 it.0 (still_holds (HoldsAt it.0) old has.0 (rests_at it.0 has.0 it.1 clean) (opened clean).0.is_open) e finds
  only_fails e clean finds (inr nothing) = free_fails old.now (still_holds HoldsStage old Free (rests_free nothing clean) (opened clean).0.is_open).1 e
      finds

  pub reopens : {A : Type 0} {new : State} {approval : Bool} {x : A} → OpensDesk old new approval (Ok x) → Reopens image new approval
  reopens h =
      let is_open = λ (clean : HasCleanDisk old). (opened clean).0.is_open in
      record {
        finds = λ clean. met (λ d. HasDesk d ⊎ LeavesFree d.schema desk_names) (omega (arith, clean, h.wears)) (h.finds clean);
        holds = λ r has. let it = at_version image r has in h.takes is_open (Some it.0) r (rests_at it.0 r it.1);
        makes = λ none. h.makes is_open (rests_free none);
      }

  -- the connection that is left
  pub refuses_calls : {D X : Type 0} {g : disk.Ghosts D} {approval : Bool} {e : OpenFault} {calls : Calls (FileStore D g)}
      → OpensDesk {A = X} old (file_state calls.conn) approval (Err e) → HasCause over_files old calls e
      → HasCleanDisk (file_state calls.conn) → RefusesCalls image approval e calls
  refuses_calls {e = e} h why clean =
      let is_open = λ (clean : HasCleanDisk old). (opened clean).0.is_open in
      let was : HasCleanDisk old = omega (arith, clean, h.wears) in
      record {
        refuses = record {
          newer = λ is. met (λ d. HasRow d IsNewerRow) was (subst (FindsFault old.now) is (h.finds clean));
          none = λ is. met HasNoDesk was (subst (FindsFault old.now) is (h.finds clean));
          fails = only_fails e was (h.finds clean);
          holds = λ v r has. h.takes is_open (Some v) r (rests_at v r has) clean;
          makes = λ none. h.makes is_open (rests_free none) clean;
        };
        causes = λ sound. why.cause is_open (healthy sound) clean;
      }
    where
      healthy : ((r : Records) × HoldsDesk HoldsDatabase image r × AreReadable r) ⊎ HoldsNone HoldsDatabase image → IsHealthy old
      healthy (inl it) = let its = at_version image it.0 it.1 in
          inl (record { version = its.0; records = it.0; rests = rests_at its.0 it.0 its.1; readable = it.2 })
      healthy (inr nothing) = inr (rests_free nothing)

-- ---- what the connection began as

pub begins_plain : {D : Type 0} {g : disk.Ghosts D} {image : Image} {approval : Bool} (first : Held (FileStore D g))
    → (HasCleanDisk (file_state first) → FindsIn image (file_state first))
    → (HasCleanDisk (file_state first) → IsBlankAs false image → (store.view first.store).has_sums ≡ false)
    → {x : Held (FileStore D g)} → OpensDesk (file_state first) (file_state x) approval (Ok x) → BeginsPlain image approval x
begins_plain first found plain h = record {
  first = first;
  opens = record { wears = h.wears; finds = h.finds; takes = h.takes; makes = h.makes };
  found = found;
  plain = plain;
}
