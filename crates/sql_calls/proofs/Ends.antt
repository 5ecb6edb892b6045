-- What the texts mean that begin and end a change.
use Rattle.sql_calls.proofs.Common.{refl, codes, Schema, Begin, Commit, Rollback, Means}
use Rattle.sqlite.specs.Listing.{understood}
use Rattle.sqlite_tied.specs.Compute.{everything}

pub begin_is : (s : Schema) → Means s (codes "BEGIN") Begin
unfolding understood everything
begin_is s = record { is = refl; plain = (refl, refl); unlisted = refl }

pub commit_is : (s : Schema) → Means s (codes "COMMIT") Commit
unfolding understood everything
commit_is s = record { is = refl; plain = (refl, refl); unlisted = refl }

pub rollback_is : (s : Schema) → Means s (codes "ROLLBACK") Rollback
unfolding understood everything
rollback_is s = record { is = refl; plain = (refl, refl); unlisted = refl }
