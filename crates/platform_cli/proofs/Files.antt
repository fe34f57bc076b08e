-- Files that are written one after another.
use Rattle.std.proofs.Common.{◌≡◌, ◌≢◌, ◌⊎◌, inl, inr, ℕ, zero, suc, ◌+◌, ◌≤◌, ◌<◌, Bool, true, false, cond, List, [], ◌∷◌, ◌++◌, length, take, drop, get_or, fold, MatchOption, None, Some, Result, refl, sym, ◌∙◌, ap, subst, arith, take-append-drop}
use Rattle.std.specs.declared.option.Option.{Option}
use Rattle.std.specs.Prelude.{Contains}
use Rattle.std.specs.Str.{bytes_eq}
use Rattle.std.proofs.lemmas.Slice.Eq.{bytes_eq-Decides}
use Rattle.std.proofs.lemmas.List.{length-map, take_more, drop_more, get_or-map}
use Rattle.std.proofs.lemmas.Option.{same_Some}
use Rattle.std.proofs.lemmas.List.Sums.{fold_push}
use Rattle.shelf.specs.declared.fault.ShelfFault.{ShelfFault}
use Rattle.shelf.specs.declared.fault.ShelfFault.TheVariants.{Failed, Memory}
use Rattle.shelf.specs.Outside.{Same, SameElsewhere, HasCause}
use Rattle.platform_cli.specs.Given.{NewFile, Outcome}
use Rattle.platform_cli.specs.Instance.{Held}
use Rattle.platform_cli.specs.Run.{Faults, IsNamed, Now, last_bytes, HoldsName, HoldsFiles, StopsAtFile, IsGivenInPart}

-- a name holds what it held, or the whole of a file of this name, or a write of it has failed
abbrev pub IsOldOrWhole : Bool → List NewFile → Held → Held → Faults → Faults → List ℕ → Type 0
IsOldOrWhole tells files old new before now name =
    (new name ≡ old name)
    ⊎ (((bytes : List ℕ) × Contains files (record { name = name; bytes = bytes }) × Now tells (new name) bytes)
    ⊎ (IsNamed files name × (before name < now name)))

-- a test on two texts, with what it says
pub same_or_not : (xs ys : List ℕ) → ((bytes_eq xs ys ≡ true) × (xs ≡ ys)) ⊎ ((bytes_eq xs ys ≡ false) × (xs ≢ ys))
same_or_not xs ys = by_test (bytes_eq xs ys) refl
  where
    by_test : (b : Bool) → bytes_eq xs ys ≡ b → ((bytes_eq xs ys ≡ true) × (xs ≡ ys)) ⊎ ((bytes_eq xs ys ≡ false) × (xs ≢ ys))
    by_test true is = inl (is, (bytes_eq-Decides xs ys).0 is)
    by_test false is = inr (is, λ same. cc (is, (bytes_eq-Decides xs ys).1 same))

pub last_push : (files : List NewFile) (i : ℕ) (file : NewFile) (name : List ℕ) → i < length files → file ≡ get_or files i file
    → last_bytes (take (i + 1) files) name ≡ cond (bytes_eq file.name name) (Some file.bytes) (last_bytes (take i files) name)
last_push files i file name le is =
    ap (λ (fs : List NewFile). last_bytes fs name) (take_more files i file le ∙ ap (λ (f : NewFile). take i files ++ f ∷ []) (sym is))
    ∙ fold_push _ None (take i files) file

-- one file more
pub holds_more : (tells : Bool) (files : List NewFile) (i : ℕ) (file : NewFile) (old mid new : Held) → i < length files → file ≡ get_or files i file
    → HoldsFiles tells (take i files) old mid → Now tells (new file.name) file.bytes → SameElsewhere file.name mid new → HoldsFiles tells (take (i + 1) files) old new
holds_more tells files i file old mid new le is before here others = λ name.
    let P : Option (List ℕ) → Type 0 = λ found. MatchOption found (new name ≡ old name) (λ bytes. Now tells (new name) bytes) in
    subst P (sym (last_push files i file name le is))
    (elim (same_or_not file.name name) [
      | inl at ↦ subst (λ (b : Bool). P (cond b (Some file.bytes) (last_bytes (take i files) name))) (sym at.0) (subst (λ (n : List ℕ). Now tells (new n) file.bytes) at.1 here)
      | inr at ↦ subst (λ (b : Bool). P (cond b (Some file.bytes) (last_bytes (take i files) name))) (sym at.0)
          (subst (λ (held : Option (List ℕ)). MatchOption (last_bytes (take i files) name) (held ≡ old name) (λ bytes. Now tells held bytes)) (sym (others name (λ same. at.1 (sym same)))) (before name))
    ])

contains_first : {A : Type 0} (x : A) (xs : List A) → Contains (x ∷ xs) x
contains_first x xs = (0, omega arith, refl)

contains_rest : {A : Type 0} (x y : A) (xs : List A) → Contains xs x → Contains (y ∷ xs) x
contains_rest x y xs (k, le, is) = (suc k, omega arith, is)

found_in : (files : List NewFile) (name bytes : List ℕ) (found : Option (List ℕ)) → fold (λ known file. cond (bytes_eq file.name name) (Some file.bytes) known) found files ≡ Some bytes
    → (found ≡ Some bytes) ⊎ Contains files (record { name = name; bytes = bytes })
found_in [] name bytes found is = inl is
found_in (file ∷ files) name bytes found is = elim (found_in files name bytes (cond (bytes_eq file.name name) (Some file.bytes) found) is) [
  | inr later ↦ inr (contains_rest _ file files later)
  | inl here ↦ elim (same_or_not file.name name) [
    | inl at ↦
        let same : ◌≡◌ {A = Option (List ℕ)} (Some file.bytes) (Some bytes) = subst (λ (b : Bool). cond b (Some file.bytes) found ≡ Some bytes) at.0 here in
        let its_bytes : file.bytes ≡ bytes = same_Some file.bytes bytes same in
        let this : ◌≡◌ {A = NewFile} (record { name = name; bytes = bytes }) file = λ i. record { name = (sym at.1) i; bytes = (sym its_bytes) i } in
        inr (subst (λ (f : NewFile). Contains (file ∷ files) f) (sym this) (contains_first file files))
    | inr at ↦ inl (subst (λ (b : Bool). cond b (Some file.bytes) found ≡ Some bytes) at.0 here)
  ]
]

-- the file that was written last under a name is one of the files
pub last_named : (files : List NewFile) (name bytes : List ℕ) → last_bytes files name ≡ Some bytes → Contains files (record { name = name; bytes = bytes })
last_named files name bytes is = elim (found_in files name bytes None is) [
  | inl none ↦ absurd (cc none)
  | inr there ↦ there
]

contains_left : {A : Type 0} (xs ys : List A) (x : A) → Contains xs x → Contains (xs ++ ys) x
contains_left [] ys x (k, le, is) = absurd (omega (arith, le))
contains_left (a ∷ xs) ys x (zero, le, is) = (zero, omega arith, is)
contains_left (a ∷ xs) ys x (suc k, le, is) = contains_rest x a (xs ++ ys) (contains_left xs ys x (k, omega (arith, le), is))

contains_between : {A : Type 0} (xs : List A) (x : A) (ys : List A) → Contains (xs ++ x ∷ ys) x
contains_between [] x ys = contains_first x ys
contains_between (a ∷ xs) x ys = contains_rest x a (xs ++ x ∷ ys) (contains_between xs x ys)

-- where some of the files were written a name holds what it held or the whole of a file
front_kept : (tells : Bool) (files front : List NewFile) (old new : Held) (before now : Faults) (name : List ℕ) → ((file : NewFile) → Contains front file → Contains files file)
    → HoldsName tells front old new name → IsOldOrWhole tells files old new before now name
front_kept tells files front old new before now name among holds = by_last (last_bytes front name) refl
  where
    by_last : (found : Option (List ℕ)) → last_bytes front name ≡ found → IsOldOrWhole tells files old new before now name
    by_last None is = inl (subst (λ (o : Option (List ℕ)). MatchOption o (new name ≡ old name) (λ bytes. Now tells (new name) bytes)) is holds)
    by_last (Some bytes) is = inr (inl (
      bytes,
      among (record { name = name; bytes = bytes }) (last_named front name bytes is),
      subst (λ (o : Option (List ℕ)). MatchOption o (new name ≡ old name) (λ bytes. Now tells (new name) bytes)) is holds,
    ))

pub is_named : (files : List NewFile) (i : ℕ) (file : NewFile) → i < length files → file ≡ get_or files i file → IsNamed files file.name
is_named files i file le is =
    (i, omega (arith, length-map files (λ (f : NewFile). f.name)), get_or-map (λ (f : NewFile). f.name) files i file file.name le ∙ ap (λ (f : NewFile). f.name) (sym is))

pub contained_name : (files : List NewFile) (file : NewFile) → Contains files file → IsNamed files file.name
contained_name files file (k, le, is) = is_named files k file le (sym is)

-- a name that holds what it held a moment ago
holds_still : (tells : Bool) (files : List NewFile) (old mid new : Held) (name : List ℕ) → new name ≡ mid name → HoldsName tells files old mid name → HoldsName tells files old new name
holds_still tells files old mid new name same holds =
    subst (λ (held : Option (List ℕ)). MatchOption (last_bytes files name) (held ≡ old name) (λ bytes. Now tells held bytes)) (sym same) holds

-- after some of the files, and a write of the next that stopped
stopped_name : (tells : Bool) (files : List NewFile) (file : NewFile) (old mid new : Held) (before between now : Faults) (fault : ShelfFault)
    → HoldsFiles tells files old mid → ((name : List ℕ) → before name ≤ between name)
    → SameElsewhere file.name mid new → (fault ≡ Failed → between file.name < now file.name) → (fault ≡ Memory → Same mid new)
    → (name : List ℕ) → HoldsName tells files old new name ⊎ ((name ≡ file.name) × (before name < now name))
stopped_name tells files file old mid new before between now Memory holds later others failed unchanged name =
    inl (holds_still tells files old mid new name (unchanged refl name) (holds name))
stopped_name tells files file old mid new before between now Failed holds later others failed unchanged name = elim (same_or_not file.name name) [
  | inl at ↦ inr (sym at.1, subst (λ (n : List ℕ). before n < now n) at.1 (omega (arith, later file.name, failed refl)))
  | inr at ↦ inl (holds_still tells files old mid new name (others name (λ same. at.1 (sym same))) (holds name))
]

pub stopped : (tells : Bool) (files : List NewFile) (i : ℕ) (file : NewFile) (old mid new : Held) (before between now : Faults) (fault : ShelfFault)
    → i < length files → file ≡ get_or files i file → HoldsFiles tells (take i files) old mid → ((name : List ℕ) → before name ≤ between name)
    → SameElsewhere file.name mid new → (fault ≡ Failed → between file.name < now file.name) → (fault ≡ Memory → Same mid new)
    → StopsAtFile tells files old new before now
stopped tells files i file old mid new before between now fault le is holds later others failed unchanged = record {
  written = take i files;
  file = file;
  unwritten = drop (i + 1) files;
  order =
      sym (take-append-drop i files)
      ∙ ap (λ (fs : List NewFile). take i files ++ fs) (drop_more files i file le ∙ ap (λ (f : NewFile). f ∷ drop (i + 1) files) (sym is));
  holds = stopped_name tells (take i files) file old mid new before between now fault holds later others failed unchanged;
}

pub all_kept : (tells : Bool) (files : List NewFile) (old new : Held) (before now : Faults) → HoldsFiles tells files old new → (name : List ℕ) → IsOldOrWhole tells files old new before now name
all_kept tells files old new before now holds name = front_kept tells files files old new before now name (λ file there. there) (holds name)

stopped_kept : (tells : Bool) (files : List NewFile) (old new : Held) (before now : Faults) → StopsAtFile tells files old new before now → (name : List ℕ) → IsOldOrWhole tells files old new before now name
stopped_kept tells files old new before now stop name = elim (stop.holds name) [
  | inl holds ↦ front_kept tells files stop.written old new before now name
      (λ file there. subst (λ (fs : List NewFile). Contains fs file) (sym stop.order) (contains_left stop.written (stop.file ∷ stop.unwritten) file there))
      holds
  | inr at ↦
      let there : Contains files stop.file = subst (λ (fs : List NewFile). Contains fs stop.file) (sym stop.order) (contains_between stop.written stop.file stop.unwritten) in
      inr (inr (subst (λ (n : List ℕ). IsNamed files n) (sym at.0) (contained_name files stop.file there), at.1))
]

-- where an outcome was given in part each name holds what it held or the whole of a file, or a write of it has failed
pub part_kept : (tells : Bool) (outcome : Outcome) (old new : Held) (before now : Faults) (put_before put_now : Option (List ℕ)) → IsGivenInPart tells outcome old new before now put_before put_now
    → (name : List ℕ) → IsOldOrWhole tells outcome.files old new before now name
part_kept tells outcome old new before now put_before put_now (inl (stop, put)) name = stopped_kept tells outcome.files old new before now stop name
part_kept tells outcome old new before now put_before put_now (inr front) name = all_kept tells outcome.files old new before now front.files name

-- what was so before the files were written was so when the run began
holds_from : (tells : Bool) (files : List NewFile) (old mid new : Held) (name : List ℕ) → mid name ≡ old name → HoldsName tells files mid new name → HoldsName tells files old new name
holds_from tells files old mid new name same holds =
    subst (λ (held : Option (List ℕ)). MatchOption (last_bytes files name) (new name ≡ held) (λ bytes. Now tells (new name) bytes)) same holds

pub part_from : (tells : Bool) (outcome : Outcome) (old mid new : Held) (first before now : Faults) (put_before put_now : Option (List ℕ)) → Same old mid → Same first before
    → IsGivenInPart tells outcome mid new before now put_before put_now → IsGivenInPart tells outcome old new first now put_before put_now
part_from tells outcome old mid new first before now put_before put_now same counts (inl (stop, put)) = inl (
  record {
    written = stop.written;
    file = stop.file;
    unwritten = stop.unwritten;
    order = stop.order;
    holds = λ name. elim (stop.holds name) [
      | inl holds ↦ inl (holds_from tells stop.written old mid new name (same name) holds)
      | inr at ↦ inr (at.0, omega (arith, counts name, at.1))
    ];
  },
  put,
)
part_from tells outcome old mid new first before now put_before put_now same counts (inr front) = inr (record {
  files = λ name. holds_from tells outcome.files old mid new name (same name) (front.files name);
  text = front.text;
})

-- no count of faults falls by a write more
pub later_more : (name : List ℕ) (before between now : Faults) → ((other : List ℕ) → before other ≤ between other) → between name ≤ now name → SameElsewhere name between now → (other : List ℕ) → before other ≤ now other
later_more name before between now earlier here others other = elim (same_or_not name other) [
  | inl at ↦ subst (λ (n : List ℕ). before n ≤ now n) at.1 (omega (arith, earlier name, here))
  | inr at ↦ omega (arith, earlier other, others other (λ same. at.1 (sym same)))
]

-- no count of faults falls by a call
pub later_all : {T : Type 0} (name : List ℕ) (before now : Faults) (result : Result T ShelfFault) → HasCause name before now result → (other : List ℕ) → before other ≤ now other
later_all name before now result cause = later_more name before before now (λ other. omega arith) cause.later cause.others
