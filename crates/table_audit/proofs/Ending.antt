-- What each end of an audit gives for the promise.
use Rattle.std.proofs.Common.{◌≡◌, ℕ, ◌<◌, ◌≤◌, inl, inr, Option, Some, None, IfSome, List, [], ◌∷◌, ◌++◌, length, take, drop, Result, Ok, Err, true, false, refl, sym, ap, ◌∙◌, subst, arith}
use Rattle.std.specs.Io.KnownBytes.{Appends, IsAtEnd}
use Rattle.std.proofs.lemmas.List.{append-nil, take-append-drop}
use Rattle.topology.specs.declared.prefixes.Prefix.{Prefix}
use Rattle.topology.specs.Paths.{differ}
use Rattle.route_io.specs.Causes.{RoseIf, AppendsFront}
use Rattle.route_io.specs.Views.{SourceView, SinkView}
use Rattle.route_io.proofs.Bytes.{stays_quiet}
use Rattle.topology.specs.declared.limits.TheConstants.{MOST_BYTES}
use Rattle.topology.specs.declared.status.AuditKind.{AuditKind}
use Rattle.topology.specs.declared.status.Status.TheVariants.{Done, WriteFault, BadTables, Inconsistent}
use Rattle.table_audit.specs.declared.checking.Verdict.{Verdict}
use Rattle.table_audit.specs.declared.checking.Verdict.TheVariants.{Consistent}
use Rattle.table_audit.specs.declared.rows.AuditRow.{AuditRow}
use Rattle.table_audit.specs.Rows.{first_bad}
use Rattle.table_audit.specs.Verdicts.{verdict_of}
use Rattle.table_audit.specs.Audited.{Audited, IsConsistent, IsInconsistent, bad_row, consistent_line}
use Rattle.table_audit.specs.Tables.{rows_of, first_misspelled}
use Rattle.table_audit.specs.Walks.{FollowsRows}

-- what a source that tells its bytes gave
pub known : (told : Option (List ℕ)) (items : List ℕ) → IfSome told (λ bytes. items ≡ bytes) → (bytes : List ℕ) → told ≡ Some bytes → items ≡ bytes
known None items h bytes e = absurd (cc e)
known (Some b) items h bytes e = let same : b ≡ bytes = cc in h ∙ same

none_some : {A P : Type 0} (o : Option A) (x : A) → o ≡ None → o ≡ Some x → P
none_some o x a b = absurd (cc (sym a ∙ b))

same_line : (m n : ℕ) (o : Option ℕ) → o ≡ Some m → o ≡ Some n → BadTables m ≡ BadTables n
same_line m n o a b = let same : m ≡ n = cc (sym a ∙ b) in ap BadTables same

same_bad : (m n : ℕ) (k l : AuditKind) (o : Option (ℕ × AuditKind)) → o ≡ Some (m, k) → o ≡ Some (n, l) → Inconsistent m k ≡ Inconsistent n l
same_bad m n k l o a b =
    let pair : (m, k) ≡ (n, l) = cc (sym a ∙ b) in
    ap (λ (x : ℕ × AuditKind). Inconsistent x.0 x.1) pair

bad_parts : (m n : ℕ) (k l : AuditKind) → Inconsistent m k ≡ Inconsistent n l → (m ≡ n) × (k ≡ l)
bad_parts m n k l e = (cc, cc)

line_part : (m n : ℕ) → BadTables m ≡ BadTables n → m ≡ n
line_part m n e = cc

-- if the check found no bad row, there is none
pub none_is_bad : (bytes text : List ℕ) (rows items : List AuditRow) (verdict : Verdict) → text ≡ bytes → items ≡ rows_of text → rows ≡ items → verdict ≡ verdict_of (first_bad rows rows) → verdict ≡ Consistent → bad_row bytes ≡ None
none_is_bad bytes text rows items verdict same read are says consistent =
    let all : rows ≡ rows_of bytes = are ∙ (read ∙ ap rows_of same) in
    none_of (bad_row bytes) (subst (λ rs. Consistent ≡ verdict_of (first_bad rs rs)) all (sym consistent ∙ says))
  where
    none_of : (o : Option (ℕ × AuditKind)) → Consistent ≡ verdict_of o → o ≡ None
    none_of None e = refl
    none_of (Some bad) e = absurd (cc e)

module _ (source source' : SourceView) (bytes : List ℕ) (read : (told : List ℕ) → source.left ≡ Some told → bytes ≡ told)
    (short : length bytes ≤ MOST_BYTES) (at_end : IsAtEnd source'.left) (quiet : source'.faults ≡ source.faults) where
  never_long : {P : Type 0} (told : List ℕ) → source.left ≡ Some told → MOST_BYTES < length told → P
  never_long told t long = absurd (let same = ap length (read told t) in omega arith)

  -- a line is misspelled
  pub ends_misspelled : (sink : SinkView) (line : ℕ) → first_misspelled bytes ≡ Some line → Audited source source' sink sink (BadTables line)
  ends_misspelled sink line bad = record {
    formed = refl;
    done = λ e. absurd (cc e);
    loop_free = λ e. absurd (cc e);
    bad_tables = λ n e told t. subst (λ b. first_misspelled b ≡ Some n) (read told t) (bad ∙ ap (λ (x : ℕ). Some x) (line_part line n e));
    inconsistent = λ n k e. absurd (cc e);
    limit = λ k n e. absurd (cc e);
    read_fault = stays_quiet source.faults source'.faults (λ e. cc e) quiet;
    write_fault = stays_quiet sink.faults sink.faults (λ e. cc e) refl;
    cut_off = λ e. absurd (cc e);
    front = λ told t. inl refl;
    silent = λ e. refl;
    read = λ e. at_end;
    complete = λ told t _ fine. none_some (first_misspelled told) line fine.spelled (subst (λ b. first_misspelled b ≡ Some line) (read told t) bad);
    refused = λ told t _ n first. inl (same_line line n (first_misspelled told) (subst (λ b. first_misspelled b ≡ Some line) (read told t) bad) first);
    found = λ told t _ n k other. none_some (first_misspelled told) line other.spelled (subst (λ b. first_misspelled b ≡ Some line) (read told t) bad);
    too_long = λ told t long. never_long told t long;
    same_room = refl;
  }

  -- a row is bad
  pub ends_inconsistent : (sink : SinkView) (line : ℕ) (kind : AuditKind) → first_misspelled bytes ≡ None → bad_row bytes ≡ Some (line, kind)
      → Audited source source' sink sink (Inconsistent line kind)
  ends_inconsistent sink line kind spelled bad =
      let told_bad : (told : List ℕ) → source.left ≡ Some told → bad_row told ≡ Some (line, kind) = λ told t. subst (λ b. bad_row b ≡ Some (line, kind)) (read told t) bad in
      let told_spelled : (told : List ℕ) → source.left ≡ Some told → first_misspelled told ≡ None = λ told t. subst (λ b. first_misspelled b ≡ None) (read told t) spelled in
      record {
        formed = refl;
        done = λ e. absurd (cc e);
        loop_free = λ e. absurd (cc e);
        bad_tables = λ n e. absurd (cc e);
        inconsistent = λ n k e told t.
            let same = bad_parts line n kind k e in
            record {
              spelled = told_spelled told t;
              bad = subst (λ m. bad_row told ≡ Some (m, k)) same.0 (subst (λ l. bad_row told ≡ Some (line, l)) same.1 (told_bad told t));
            };
        limit = λ k n e. absurd (cc e);
        read_fault = stays_quiet source.faults source'.faults (λ e. cc e) quiet;
        write_fault = stays_quiet sink.faults sink.faults (λ e. cc e) refl;
        cut_off = λ e. absurd (cc e);
        front = λ told t. inl refl;
        silent = λ e. refl;
        read = λ e. at_end;
        complete = λ told t _ fine. none_some (bad_row told) (line, kind) fine.good (told_bad told t);
        refused = λ told t _ n first. none_some (first_misspelled told) n (told_spelled told t) first;
        found = λ told t _ n k other. inl (same_bad line n kind k (bad_row told) (told_bad told t) other.bad);
        too_long = λ told t long. never_long told t long;
        same_room = refl;
      }

  module _ (sink sink' : SinkView) (spelled : first_misspelled bytes ≡ None) (good : bad_row bytes ≡ None) (same_room : sink'.room ≡ sink.room) where
    fine : (told : List ℕ) → source.left ≡ Some told → IsConsistent told
    fine told t = record {
      spelled = subst (λ b. first_misspelled b ≡ None) (read told t) spelled;
      good = subst (λ b. bad_row b ≡ None) (read told t) good;
    }

    -- the line was written whole
    pub ends_done : ((epoch : ℕ) (prefix : Prefix) (nodes : List ℕ) → FollowsRows (rows_of bytes) epoch prefix nodes → differ nodes ≡ true)
        → Appends sink.held sink'.held consistent_line → sink'.faults ≡ sink.faults → Audited source source' sink sink' Done
    ends_done free whole still = record {
      formed = refl;
      done = λ e told t. (fine told t, whole);
      loop_free = λ e told t epoch prefix nodes follows. free epoch prefix nodes (subst (λ b. FollowsRows (rows_of b) epoch prefix nodes) (sym (read told t)) follows);
      bad_tables = λ n e. absurd (cc e);
      inconsistent = λ n k e. absurd (cc e);
      limit = λ k n e. absurd (cc e);
      read_fault = stays_quiet source.faults source'.faults (λ e. cc e) quiet;
      write_fault = stays_quiet sink.faults sink'.faults (λ e. cc e) still;
      cut_off = λ e. absurd (cc e);
      front = λ told t. inr (fine told t, consistent_line, ([], append-nil consistent_line), whole);
      silent = λ e. absurd (cc e);
      read = λ e. at_end;
      complete = λ told t _ _. inl refl;
      refused = λ told t _ n first. none_some (first_misspelled told) n (fine told t).spelled first;
      found = λ told t _ n k other. none_some (bad_row told) (n, k) (fine told t).good other.bad;
      too_long = λ told t long. never_long told t long;
      same_room = same_room;
    }

    -- the sink failed
    pub ends_cut_off : AppendsFront sink.held sink'.held consistent_line → RoseIf (WriteFault ≡ WriteFault) sink.faults sink'.faults
        → Audited source source' sink sink' WriteFault
    ends_cut_off cut rose = record {
      formed = refl;
      done = λ e. absurd (cc e);
      loop_free = λ e. absurd (cc e);
      bad_tables = λ n e. absurd (cc e);
      inconsistent = λ n k e. absurd (cc e);
      limit = λ k n e. absurd (cc e);
      read_fault = stays_quiet source.faults source'.faults (λ e. cc e) quiet;
      write_fault = rose;
      cut_off = λ e told t. (fine told t, cut);
      front = λ told t. inr (fine told t, take cut.0 consistent_line, (drop cut.0 consistent_line, take-append-drop cut.0 consistent_line), cut.2);
      silent = λ e. absurd (cc e);
      read = λ e. at_end;
      complete = λ told t _ _. inr (inr (inr refl));
      refused = λ told t _ n first. none_some (first_misspelled told) n (fine told t).spelled first;
      found = λ told t _ n k other. none_some (bad_row told) (n, k) (fine told t).good other.bad;
      too_long = λ told t long. never_long told t long;
      same_room = same_room;
    }
