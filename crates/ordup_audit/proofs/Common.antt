-- The names that the proofs about records cite most, passed on from one place. It declares nothing.
pub use Rattle.std.proofs.Common.{◌*◌, ◌++◌, ◌+◌, ◌-◌, ◌<◌, ◌==◌, ◌^◌, ◌∙◌, ◌∷◌, ◌≡◌, ◌≤◌, ◌⊎◌, [], ap, append_assoc, arith, Bool, codes}
pub use Rattle.std.proofs.Common.{drop, Err, false, get_or, if◌then◌else◌, inl, inr, leb, length, List, map, nat_eq, negsuc, None, not}
pub use Rattle.std.proofs.Common.{of_z, Ok, Option, pos, refl, Result, rules, Some, subst, suc, sym, take, to_z, true, unsigned_abs, w64}
pub use Rattle.std.proofs.Common.{zero, ℕ, ℤ}
pub use Rattle.std.proofs.Math.Bool.{or-true}
pub use Rattle.std.proofs.Math.Seq.{get_or-append_seam}
pub use Rattle.std.proofs.lemmas.Bool.{and_from, and_parts, cases_Bool, cases_lt, eq-eqb, eqb-true, false≢true, le-leb, leb-true, lt-leb}
pub use Rattle.std.proofs.lemmas.Bool.{lt-ltb, ltb-true, or_from, or_parts}
pub use Rattle.std.proofs.lemmas.Bool.Decides.{nat_tests}
pub use Rattle.std.proofs.lemmas.Fmt.{digits_decimal}
pub use Rattle.std.proofs.lemmas.Int.{to_z-of_z}
pub use Rattle.std.proofs.lemmas.List.{append-nil, get_or-map, get_or_default, length-append, length-map, length_push, map-append}
pub use Rattle.std.proofs.lemmas.List.{nil_from_length, same_lists, take-append-drop, take-append-le, take_all}
pub use Rattle.std.proofs.lemmas.List.Elements.{All-cons, All-map, All-nil, All-push, All-tail, All-weaker}
pub use Rattle.std.proofs.lemmas.List.Folds.{list_any-append}
pub use Rattle.std.proofs.lemmas.List.Kept.{AllPairs-from_increasing}
pub use Rattle.std.proofs.lemmas.Option.{get_or_from_slice_get, same_Some}
pub use Rattle.std.proofs.lemmas.Slice.Eq.{bytes_eq-Decides, slice_eq-Decides}
pub use Rattle.std.specs.Bool.{then_some}
pub use Rattle.std.specs.Char.{is_ascii_digit}
pub use Rattle.std.specs.Cmp.Lexicographic.{pointwise}
pub use Rattle.std.specs.Fmt.{decimal, signed_decimal}
pub use Rattle.std.specs.List.{list_all, list_any, slice_split}
pub use Rattle.std.specs.List.Sorted.{IsStrictlyIncreasing}
pub use Rattle.std.specs.Option.{is_none}
pub use Rattle.std.specs.Prelude.{◌&&◌, ◌||◌, All, AllPairs, IfOk, IfSome, is_some, IsTrue, max, nat_le, nat_lt, option_and_then}
pub use Rattle.std.specs.Prelude.{option_map, slice_get}
pub use Rattle.std.specs.Str.{all_ascii_digits, bytes_eq}
pub use Rattle.ordup_objects.proofs.SerialLemmas.{serial-longer}
pub use Rattle.ordup_objects.specs.Names.{is_name, is_name_byte}
pub use Rattle.ordup_objects.specs.Ops.{is_none_or, number_of as op_number, op_with, source_of}
pub use Rattle.ordup_objects.specs.Refusals.{IsRefusal}
pub use Rattle.ordup_objects.specs.Repeats.{repeats}
pub use Rattle.ordup_objects.specs.Serial.{History, IsLegalHistory, serial, with_more}
pub use Rattle.ordup_objects.specs.Sets.{are_in_range, are_known, are_of_one_object, AreKnown, IsKnown, IsSet, set_refusal}
pub use Rattle.ordup_objects.specs.Sizes.{greatest_value, most_changes, most_groups, most_members, most_objects, most_updates}
pub use Rattle.ordup_objects.specs.States.{in_range, is_legal, IsInRange, IsState, result_at, State, value_at}
pub use Rattle.ordup_objects.specs.Tables.{AreDistinct, AreNames, index_of, initial_state, names_of, object_refusal, Objects}
pub use Rattle.ordup_objects.specs.declared.change.Change.{Change}
pub use Rattle.ordup_objects.specs.declared.change.NumberOp.{NumberOp}
pub use Rattle.ordup_objects.specs.declared.change.Op.{Op}
pub use Rattle.ordup_objects.specs.declared.change.Op.TheVariants.{Add, Max, Min, Mul, Set, Take}
pub use Rattle.ordup_log.specs.Groups.{AreMembersKnown, group_refusal, GroupList, IsGroup, last_members, member_refusal, with_member}
pub use Rattle.ordup_log.specs.Spans.{IsScopeKnown}
pub use Rattle.ordup_log.specs.declared.scope.Scope.{Scope}
pub use Rattle.ordup_log.specs.declared.scope.Scope.TheVariants.{All as Everything, Count, Group, Object}
pub use Rattle.ordup_limits.specs.Entries.{AreEntries, AreEntriesKnown, Entries, HoldFrom, in_force}
pub use Rattle.ordup_limits.specs.Limits.{limit_refusal}
pub use Rattle.ordup_limits.specs.Sizes.{greatest_amount, most_limits}
pub use Rattle.ordup_limits.specs.declared.limit.Limit.{Limit}
pub use Rattle.ordup_rounds.specs.Fewest.{IsCertificate}
pub use Rattle.ordup_rounds.specs.Rounds.{AreRoundPlaces, full_rounds}
pub use Rattle.ordup_rounds.specs.Schedules.{awaited_place, base, StaysWithin}
pub use Rattle.ordup_rounds.specs.Windows.{IsWindow}
pub use Rattle.ordup_rounds.specs.declared.window.Window.{Window}
pub use Rattle.ordup_audit.specs.RecordInside.{AreParts, state_of}
pub use Rattle.ordup_audit.specs.Records.{AreGroups, AreReportChanges, history_of, is_within, IsRecord, RecordState}
pub use Rattle.ordup_audit.specs.Records.{report_at}
pub use Rattle.ordup_audit.specs.Sizes.{most_windows}
pub use Rattle.ordup_audit.specs.Validity.{IsLegalPrefix, IsValid}
