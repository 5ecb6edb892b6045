-- What the rows of an import come to.
use Rattle.desk_commands.proofs.Common.{◌≡◌, true, List, [], ◌∷◌, Some, None, option_map, refl, sym, ap, ◌∙◌, arith, is_some, stored_target, AddsTarget}
use Rattle.desk_commands.proofs.Common.{are_sorted, renamed, with_changed, with_target, StoredTarget, contains_word, Bytes, TargetRow, Records, new_target}
use Rattle.desk_commands.proofs.Common.{Target, target_of, tags_of, are_distinct_words, AddsTags, PutsRows, Renames, Retags, lacking, retagged, tagged_with}
use Rattle.desk_records.proofs.Targets.{id_found}
use Rattle.desk_commands.proofs.TagLemmas.{retag_words}
use Rattle.desk_commands.proofs.TargetLemmas.{change_twice, find_changed, found_new, ids_sorted, put_new, put_there, there, unchanged}

abbrev with_targets : Records → List Target → Records
with_targets r ts = record r { targets = ts }

-- the row without its tags
abbrev untagged_row : TargetRow → TargetRow
untagged_row row = record { id = row.id; name = row.name; digest = row.digest; tags = [] }

-- what is kept of a target is kept of one that is there
pub stored_there : (r : Records) (id : Bytes) (stored : StoredTarget) → Some stored ≡ option_map stored_target (target_of r id)
    → (t : Target) × (target_of r id ≡ Some t) × (stored ≡ stored_target t)
stored_there r id stored read = let it = there (target_of r id) (grind (arith, read)) in (it.0, it.1, grind (arith, it.1, read))

pub adds_row_parts : (row : TargetRow) → are_distinct_words row.tags ≡ true → (r next : Records) → None ≡ option_map stored_target (target_of r row.id)
    → PutsRows (row ∷ []) r next
    → (mid : Records) × AddsTarget row.id row.name row.digest r mid × AddsTags row.id row.tags [] mid next
adds_row_parts row distinct r next read h =
    let none : target_of r row.id ≡ None = grind (arith, read) in
    let mid = with_target r row.id row.name row.digest in
    let now : target_of mid row.id ≡ Some (new_target (untagged_row row)) = found_new (untagged_row row) r.targets none in (
      mid,
      record { is_new = none; next_is = refl },
      record {
        is_there = ap is_some now;
        are_distinct = distinct;
        are_new = λ w among other. ap (λ o. contains_word w (tags_of o)) now;
        next_is = h
            ∙ ap (with_targets r) (sym (put_new (untagged_row row) row (tagged_with (lacking row.tags [])) refl
            (ap (λ (ws : List Bytes). record (new_target row) { tags = ws }) (retag_words row.tags [] tt)) r.targets none));
      },
    )

pub renames_nothing : (row : TargetRow) (stored : StoredTarget) → stored.name ≡ row.name → stored.digest ≡ row.digest → (r next : Records)
    → are_sorted r.targets ≡ true → Renames row stored r next → next ≡ r
renames_nothing row stored name digest r next sorted h = grind (arith, stored_there, unchanged)

pub changes_row_parts : (row : TargetRow) (stored : StoredTarget) (r next : Records) → are_sorted r.targets ≡ true → Some stored
    ≡ option_map stored_target (target_of r row.id) → PutsRows (row ∷ []) r next
    → (mid : Records) × Renames row stored r mid × Retags row.id row.tags mid next
changes_row_parts row stored r next sorted read h =
    let it = stored_there r row.id stored read in
    let t = it.0 in
    let name = renamed row.name row.digest in (
      with_changed r row.id name,
      (read, refl),
      (
        ap is_some (find_changed r row.id name (λ u. refl) ∙ ap (option_map name) it.1),
        h
            ∙ ap (with_targets r) (sym (put_there row (λ u. retagged row.tags (name u)) r.targets t (ids_sorted r.targets sorted) it.1
            (ap (λ (i : Bytes). record (new_target row) { id = i; attributes = t.attributes }) (id_found row.id r.targets t it.1))))
            ∙ sym (change_twice r row.id name (λ u. refl) (retagged row.tags)),
      ),
    )
