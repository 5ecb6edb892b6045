-- The names of other modules that the proofs here cite, passed on from one place. Declares nothing.
pub use Rattle.std.proofs.Common.{◌≡◌, ℕ, zero, suc, ◌+◌, ◌-◌, ◌*◌, ◌^◌, ◌<◌, ◌≤◌, min, Bool, true, false, cond, ◌&&◌, ◌||◌, eqb, ◌≢◌, ◌⊎◌, List, [], ◌∷◌}
pub use Rattle.std.proofs.Common.{◌++◌, map, length, get_or, take, drop, replicate, if◌then◌else◌, nat_lt, ◌==◌, Some, None, Ok, Err, codes, IsAscii, decimal}
pub use Rattle.std.proofs.Common.{All, Option, Result, option_map, unwrap_or, sym, refl, ap, ◌∙◌, subst, inl, inr, append_assoc, arith, rules}
pub use Rattle.std.proofs.lemmas.Bool.{and_from, and_parts, cases_lt, cases_order, cond-true, cond_both, eqb-true, false≢true, lt-ltb, ltb-false}
pub use Rattle.std.proofs.lemmas.Bool.{ne_eqb, not_from_false}
pub use Rattle.std.proofs.lemmas.List.{append-nil, drop-drop, drop_all, drop_at, get_or-drop, get_or-map, get_or-take, get_or_append_left, get_or_past}
pub use Rattle.std.proofs.lemmas.List.{length-append, length-drop, length-map, length-take-le, take-append-drop, take-map, take_at, take_rest}
pub use Rattle.std.proofs.lemmas.List.Sums.{AllPass-from_list_all, list_all-from_AllPass}
pub use Rattle.std.specs.Io.KnownBytes.{Appends}
pub use Rattle.std.specs.List.{flat_map, list_all}
pub use Rattle.std.specs.Option.{is_some, option_to_list}
pub use Rattle.std.specs.Str.Parse.{digits_value}
pub use Rattle.memchr.specs.Find.{FindsNeedle, OccursAt, is_byte, places}
pub use Rattle.rollout_model.specs.Limits.{limits}
pub use Rattle.http_wire.specs.BodyLengths.{body_length, is_digits, length_by, length_of}
pub use Rattle.http_wire.specs.Faults.{BadCoding, BadHead, BadLength, Cut, End, Fault, HeadTooLarge, Input, TooLarge, WireFault}
pub use Rattle.http_wire.specs.Fields.{fields_named, is_named, value_of_one}
pub use Rattle.http_wire.specs.Heads.{FieldLine, HeadParts, IsOriginForm, NameAndValue, SpellsHead, is_target_byte, name_and_value}
pub use Rattle.http_wire.specs.Inbox.{StandsInFront, HandsOut, field_view, message_of}
pub use Rattle.http_wire.specs.Messages.{IsBadRegion, IsFault, IsHeadWith, IsMessage, IsUndecided, WireMessage}
pub use Rattle.http_wire.specs.private.Parse.{IsHeadAt, IsStrict, is_no_line_break, lf_follows_cr}
pub use Rattle.http_wire.specs.Regions.{AreLines, HasFewFields, HasLines, HasNoRegion, HasRegion, IsHeadEndAt, line_ends}
pub use Rattle.http_wire.specs.Streams.{Begins, EndsAs, HasMessages}
pub use Rattle.http_wire.specs.declared.message.Field.{Field}
