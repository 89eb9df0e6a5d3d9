-- Readers, one behind the other.
use Rattle.std.proofs.Common.{◌≡◌, ℕ, zero, ◌≤◌, ◌<◌, ◌+◌, suc, List, [], ◌∷◌, ◌++◌, Bool, true, false, ◌||◌, nat_lt, length, map, Option, Some, None, refl, sym, ap, subst, ◌∙◌, append_assoc, IfSome, arith}
use Rattle.std.specs.List.{cons_option}
use Rattle.std.proofs.lemmas.Bool.{lt-ltb, true≢false}
use Rattle.ps_world.specs.Counts.{Rose}
use Rattle.ps_world.specs.Files.{Files, IsFileAt, bytes_at}
use Rattle.ps_world.specs.Paths.{Components}
use Rattle.ps_world.specs.TreeState.{AreOut, TreeState, lend, take_back}
use Rattle.ps_world.proofs.TreeStateLemmas.{balanced-none, out-lend, out-take_back}
use Rattle.fl_engines.specs.OwnEnds.{each_of}
use Rattle.fl_graph.specs.Paths.{path_read, paths_read}
use Rattle.fl_graph.specs.declared.graphs.Cell.{Cell}
use Rattle.fl_graph.specs.declared.kinds.NodeKind.{NodeKind}
use Rattle.fl_commands.specs.Inner.Overs.{Opens}
use Rattle.fl_commands.specs.Readers.{has_count}
use Rattle.fl_commands.specs.Writers.{AreFilesAt}

-- what is told of one more
each-behind : {End Told : Type 0} (tell : End → Told) (entries : List (ℕ × End)) (number : ℕ) (end : End)
    → each_of tell (entries ++ (number, end) ∷ []) ≡ each_of tell entries ++ tell end ∷ []
each-behind tell [] number end = refl
each-behind tell (first ∷ rest) number end = ap (λ it. tell first.1 ∷ it) (each-behind tell rest number end)

pub each-more : {End Told : Type 0} (tell : End → Told) (entries all : List (ℕ × End)) (number : ℕ) (end : End) (told : Told) → all ≡ entries ++ (number, end) ∷ [] → tell end ≡ told
    → each_of tell all ≡ each_of tell entries ++ told ∷ []
each-more tell entries all number end told is tells =
    ap (each_of tell) is ∙ each-behind tell entries number end ∙ ap (λ it. each_of tell entries ++ it ∷ []) tells

-- counts behind one another
or-false : (test : Bool) → (test || false) ≡ test
or-false true = refl
or-false false = refl

or-assoc : (one two three : Bool) → (one || (two || three)) ≡ ((one || two) || three)
or-assoc true two three = refl
or-assoc false two three = refl

count-more : (counts : List ℕ) (count : ℕ) → has_count (counts ++ count ∷ []) ≡ (has_count counts || nat_lt 0 count)
count-more [] count = or-false (nat_lt 0 count)
count-more (first ∷ rest) count = ap (λ it. nat_lt 0 first || it) (count-more rest count) ∙ or-assoc (nat_lt 0 first) (has_count rest) (nat_lt 0 count)

-- one more is in a list, whatever it is
pub one-more : {X : Type 0} (all rest : List X) (last : X) → all ≡ rest ++ last ∷ [] → length all ≡ suc (length rest)
one-more all rest last is = ap (λ it. length it) is ∙ by_items rest
  where
    by_items : (items : List _) → length (items ++ last ∷ []) ≡ suc (length items)
    by_items [] = refl
    by_items (first ∷ items) = ap suc (by_items items)

-- readers, and one that is opened behind them
module _ {End : Type 0} (entries all : List (ℕ × End)) (number : ℕ) (end : End) (is : all ≡ entries ++ (number, end) ∷ []) where
  pub count-opened : length all ≡ length entries + 1
  count-opened = let longer = one-more all entries (number, end) is in omega (arith, longer)

  pub out-opened : (first mid new : TreeState) → new ≡ lend mid → AreOut (length entries) first mid → AreOut (length all) first new
  out-opened first mid new lent out =
      subst (λ (it : TreeState). AreOut (length all) first it) (sym lent) (subst (λ (it : ℕ). AreOut it first (lend mid)) (sym (one-more all entries (number, end) is)) (out-lend (length entries) first mid out))

  pub fresh-opened : (faults : End → ℕ) → faults end ≡ 0 → has_count (each_of faults entries) ≡ false → has_count (each_of faults all) ≡ false
  fresh-opened faults none fresh =
      ap has_count (each-more faults entries all number end 0 is none) ∙ count-more (each_of faults entries) 0 ∙ or-false (has_count (each_of faults entries)) ∙ fresh

-- one that is opened, and goes back at once
pub out-returned : (count : ℕ) (first old mid new : TreeState) → mid ≡ lend old → new ≡ take_back mid → AreOut count first old → AreOut count first new
out-returned count first old mid new lent back out =
    subst (λ (it : TreeState). AreOut count first it) (sym (back ∙ ap take_back lent)) (out-take_back count first (lend old) (out-lend count first old out))

-- counts that rose go on to stand above, and one of those that are told last rises the tree's
pub rose-later : (first before now : ℕ) → Rose first before → before ≤ now → Rose first now
rose-later first before now rose later = omega (arith, rose, later)

pub rose-earlier : (first before now : ℕ) → first ≤ before → Rose before now → Rose first now
rose-earlier first before now earlier rose = omega (arith, earlier, rose)

pub either : (one two : Bool) → (one || two) ≡ false → (one ≡ false) × (two ≡ false)
either false false is = (refl, refl)
either false true is = absurd (cc)
either true two is = absurd (cc)

pub none-above : (count : ℕ) → nat_lt 0 count ≡ false → count ≡ 0
none-above zero is = refl
none-above (suc count) is = let above : 0 < suc count = omega arith in absurd (true≢false (sym (lt-ltb 0 (suc count) above) ∙ is))

-- readers that are left, and the last of them, which goes back
module _ {End : Type 0} (faults : End → ℕ) (entries rest : List (ℕ × End)) (number : ℕ) (end : End) (is : entries ≡ rest ++ (number, end) ∷ []) where
  pub counted : has_count (each_of faults entries) ≡ (has_count (each_of faults rest) || nat_lt 0 (faults end))
  counted = ap has_count (each-more faults rest entries number end (faults end) is refl) ∙ count-more (each_of faults rest) (faults end)

  pub shorter : length entries ≡ suc (length rest)
  shorter = one-more entries rest (number, end) is

  pub out-next : (first mid new : TreeState) → new ≡ take_back mid → AreOut (length entries) first mid → AreOut (length rest) first new
  out-next first mid new back out =
      subst (λ (it : TreeState). AreOut (length rest) first it) (sym back) (out-take_back (length rest) first mid (subst (λ (it : ℕ). AreOut it first mid) shorter out))

  pub calm-next : (all : Bool) (first before now : ℕ) → (all ≡ false → (has_count (each_of faults entries) ≡ false) × (before ≡ first)) → (faults end ≡ 0 → now ≡ before)
      → all ≡ false → (has_count (each_of faults rest) ≡ false) × (now ≡ first)
  calm-next all first before now so calm none =
      let parts = either (has_count (each_of faults rest)) (nat_lt 0 (faults end)) (sym counted ∙ (so none).0) in
      (parts.0, calm (none-above (faults end) parts.1) ∙ (so none).1)

  pub rose-next : (all : Bool) (first before now : ℕ) → (all ≡ true → has_count (each_of faults entries) ≡ false → Rose first before) → first ≤ before → before ≤ now
      → (0 < faults end → Rose before now) → all ≡ true → has_count (each_of faults rest) ≡ false → Rose first now
  rose-next all first before now so earlier later rises some none = by_count (faults end) refl
    where
      by_count : (count : ℕ) → count ≡ faults end → Rose first now
      by_count zero same =
          rose-later first before now (so some (counted ∙ ap (λ it. it || nat_lt 0 (faults end)) none ∙ ap (nat_lt 0) (sym same))) later
      by_count (suc count) same = rose-earlier first before now earlier (rises (omega (arith, same)))

-- the texts of the files that nodes read, from the first on
abbrev pub texts_of_files : Files → List (Cell NodeKind) → List (Option (List ℕ))
texts_of_files files cells = map (λ path. Some (bytes_at files path)) (paths_read cells)

-- the file of the first of some, if it has one, and those of the rest
first-there : (files : Files) (path : Option Components) (paths : List Components) → AreFilesAt files (cons_option path paths) → IfSome path (λ it. IsFileAt files it)
first-there files None paths there = tt
first-there files (Some path) paths there = there.0

rest-there : (files : Files) (path : Option Components) (paths : List Components) → AreFilesAt files (cons_option path paths) → AreFilesAt files paths
rest-there files None paths there = there
rest-there files (Some path) paths there = there.1

texts-more : (files : Files) (path : Option Components) (paths : List Components)
    → map (λ path. Some (bytes_at files path)) (cons_option path paths) ≡ map (λ path. Some (bytes_at files path)) (cons_option path []) ++ map (λ path. Some (bytes_at files path)) paths
texts-more files None paths = refl
texts-more files (Some path) paths = refl

files-more : (path : Option Components) (paths : List Components) → length (cons_option path paths) ≡ length (cons_option path []) + length paths
files-more None paths = omega arith
files-more (Some path) paths = omega arith

-- the first of the nodes that are left, and the rest
module _ (all left rest : List (Cell NodeKind)) (node : Cell NodeKind) (is : left ≡ node ∷ rest) (path : Option Components) (path_is : path ≡ path_read node.kind) where
  cut : paths_read left ≡ cons_option path (paths_read rest)
  cut = ap (λ (it : List (Cell NodeKind)). paths_read it) is ∙ ap (λ (it : Option Components). cons_option it (paths_read rest)) (sym path_is)

  pub node-there : (held : Option Files) → IfSome held (λ files. AreFilesAt files (paths_read left)) → IfSome held (λ files. IfSome path (λ it. IsFileAt files it))
  node-there None there = tt
  node-there (Some files) there = first-there files path (paths_read rest) (subst (AreFilesAt files) cut there)

  pub nodes-there : (held : Option Files) → IfSome held (λ files. AreFilesAt files (paths_read left)) → IfSome held (λ files. AreFilesAt files (paths_read rest))
  nodes-there None there = tt
  nodes-there (Some files) there = rest-there files path (paths_read rest) (subst (AreFilesAt files) cut there)

  pub nodes-texts : (files : Files) (first before after : List (Option (List ℕ))) → first ++ texts_of_files files all ≡ before ++ texts_of_files files left
      → after ≡ before ++ map (λ path. Some (bytes_at files path)) (cons_option path []) → first ++ texts_of_files files all ≡ after ++ texts_of_files files rest
  nodes-texts files first before after so more =
      so ∙ ap (λ (it : List Components). before ++ map (λ path. Some (bytes_at files path)) it) cut
      ∙ ap (λ (it : List (Option (List ℕ))). before ++ it) (texts-more files path (paths_read rest))
      ∙ sym (append_assoc before (map (λ path. Some (bytes_at files path)) (cons_option path [])) (texts_of_files files rest))
      ∙ ap (λ (it : List (Option (List ℕ))). it ++ texts_of_files files rest) (sym more)

  pub nodes-count : (first before after : ℕ) → first + length (paths_read all) ≡ before + length (paths_read left)
      → after ≡ before + length (cons_option path []) → first + length (paths_read all) ≡ after + length (paths_read rest)
  nodes-count first before after so more =
      let many = ap (λ (it : List Components). length it) cut ∙ files-more path (paths_read rest) in
      omega (arith, so, more, many)

-- none is out yet
pub out-none : {End : Type 0} (entries : List (ℕ × End)) → entries ≡ [] → (state : TreeState) → AreOut (length entries) state state
out-none entries is state = subst (λ (it : List (ℕ × _)). AreOut (length it) state state) (sym is) (balanced-none state)

-- readers of all files, where none was out before
pub opens-so : {R : Type 0} (of_reader : R → Option (List ℕ)) (reader_faults : R → ℕ) (paths : List Components) (tree tree' : TreeState) (none readers : List (ℕ × R)) → none ≡ []
    → ((files : Files) → tree.held ≡ Some files → each_of of_reader readers ≡ each_of of_reader none ++ map (λ path. Some (bytes_at files path)) paths)
    → length readers ≡ length none + length paths
    → (has_count (each_of reader_faults none) ≡ false → has_count (each_of reader_faults readers) ≡ false)
    → ((first : TreeState) → AreOut (length none) first tree → AreOut (length readers) first tree')
    → Opens of_reader reader_faults paths tree tree' readers
opens-so of_reader reader_faults paths tree tree' none readers is texts count fresh out =
    record {
      texts = λ files told. texts files told ∙ ap (λ (it : List (ℕ × _)). each_of of_reader it ++ map (λ path. Some (bytes_at files path)) paths) is;
      count = let empty = ap (λ (it : List (ℕ × _)). length it) is in omega (arith, count, empty);
      fresh = fresh (ap (λ (it : List (ℕ × _)). has_count (each_of reader_faults it)) is);
      out = out tree (out-none none is tree);
    }

pub ruleset reader_steps = (each-more, count-opened, out-opened, fresh-opened, out-returned)
