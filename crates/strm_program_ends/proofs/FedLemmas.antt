-- Some of the items that lie in bytes, and one feed more behind all others.
use Rattle.std.proofs.Common.{◌≡◌, ℕ, ◌+◌, ◌*◌, ◌-◌, ◌≤◌, List, [], ◌∷◌, ◌++◌, length, take, drop, map, Some, refl, sym, ap, subst, ◌∙◌, arith, length-append, length-drop}
use Rattle.std.proofs.lemmas.List.{nil_from_length, take_all, drop-append-le, take-append-le, take-append-drop, length-take-le}
use Rattle.std.proofs.lemmas.List.Elements.{All-head, All-tail}
use Rattle.std.specs.Prelude.{All}
use Rattle.strm_codes.specs.Layout.{item_type, byte_type}
use Rattle.strm_codes.specs.ItemTypes.{item_size}
use Rattle.strm_codes.specs.declared.payloads.Payload.{Payload}
use Rattle.strm_memory.specs.Items.{items, byte_items, AreItems}
use Rattle.strm_memory.proofs.AppendLemmas.{items-bytes}
use Rattle.strm_buffers.specs.Listing.{items_in, listed}
use Rattle.strm_buffers.proofs.ListingLemmas.{Lie, lie_more}
use Rattle.strm_program_ends.specs.Queues.{items_fed}
use Rattle.strm_program_ends.specs.Fed.{AllFed, more_fed, heard_kept, fed_kept, item_bytes, other_bytes, IsQueueFed}
use Rattle.strm_program_ends.specs.declared.feeds.Feed.{Feed}

-- a part of a list stays where it is when more comes behind all
pub part-more : {A : Type 0} (xs more : List A) (a n : ℕ) → a + n ≤ length xs → take n (drop a (xs ++ more)) ≡ take n (drop a xs)
part-more xs more a n h =
    ap (take n) (drop-append-le a xs more (omega (arith, h))) ∙ take-append-le n (drop a xs) more (omega (arith, h, length-drop a xs))

-- what is the same of each is the same of all
pub map_same : {X Y : Type 0} (f g : X → Y) (xs : List X) → All (λ x. f x ≡ g x) xs → map f xs ≡ map g xs
map_same f g [] a = refl
map_same f g (x ∷ xs) a =
    let first : f x ≡ g x = All-head (λ y. f y ≡ g y) x xs a in
    let others : map f xs ≡ map g xs = map_same f g xs (All-tail (λ y. f y ≡ g y) x xs a) in
    cc

-- a feed of these bytes
abbrev pub feed_of : ℕ → List ℕ → List ℕ → Feed
feed_of records given left = record { records = records; len = length given; rest_len = length left }

item_bytes-more : (feeds : List Feed) (feed : Feed) → item_bytes (feeds ++ feed ∷ []) ≡ item_bytes feeds + feed.len
item_bytes-more [] feed = omega arith
item_bytes-more (f ∷ feeds) feed = omega (arith, item_bytes-more feeds feed)

other_bytes-more : (feeds : List Feed) (feed : Feed) → other_bytes (feeds ++ feed ∷ []) ≡ other_bytes feeds + feed.rest_len
other_bytes-more [] feed = omega arith
other_bytes-more (f ∷ feeds) feed = omega (arith, other_bytes-more feeds feed)

-- all that are there are the last
all_last : (bytes more : List ℕ) → length bytes ≡ 0 → take (length more) (bytes ++ more) ≡ more
all_last bytes more none =
    ap (λ l. take (length more) (l ++ more)) (nil_from_length bytes none) ∙ take_all (length more) more (omega arith)

-- what was heard before stays when more comes behind all bytes, and the last feed has what came
heard-more : (records : ℕ) (bytes rest given left : List ℕ) (feeds : List Feed) → length bytes ≡ item_bytes feeds → length rest ≡ other_bytes feeds → heard_kept (bytes ++ given) (rest ++ left) (feeds ++ feed_of records given left ∷ []) ≡ heard_kept bytes rest feeds ++ (records, given ++ left) ∷ []
heard-more records bytes rest given left [] h g =
    let both : take (length given) (bytes ++ given) ++ take (length left) (rest ++ left) ≡ given ++ left =
    ap (λ l. l ++ take (length left) (rest ++ left)) (all_last bytes given h) ∙ ap (λ l. given ++ l) (all_last rest left g) in
    ap (λ b. (records, b) ∷ []) both
heard-more records bytes rest given left (f ∷ feeds) h g =
    let in_bytes : f.len ≤ length bytes = omega (arith, h) in
    let in_rest : f.rest_len ≤ length rest = omega (arith, g) in
    let fewer : length (drop f.len bytes) ≡ item_bytes feeds = omega (arith, h, length-drop f.len bytes) in
    let others : length (drop f.rest_len rest) ≡ other_bytes feeds = omega (arith, g, length-drop f.rest_len rest) in
    let all = feeds ++ feed_of records given left ∷ [] in
    let first : take f.len (bytes ++ given) ++ take f.rest_len (rest ++ left) ≡ take f.len bytes ++ take f.rest_len rest =
    ap (λ l. l ++ take f.rest_len (rest ++ left)) (take-append-le f.len bytes given in_bytes) ∙ ap (λ l. take f.len bytes ++ l) (take-append-le f.rest_len rest left in_rest) in
    let behind : heard_kept (drop f.len (bytes ++ given)) (drop f.rest_len (rest ++ left)) all ≡ heard_kept (drop f.len bytes) (drop f.rest_len rest) feeds ++ (records, given ++ left) ∷ [] =
    ap (λ l. heard_kept l (drop f.rest_len (rest ++ left)) all) (drop-append-le f.len bytes given in_bytes)
    ∙ ap (λ l. heard_kept (drop f.len bytes ++ given) l all) (drop-append-le f.rest_len rest left in_rest)
    ∙ heard-more records (drop f.len bytes) (drop f.rest_len rest) given left feeds fewer others in
    ap (λ b. (f.records, b) ∷ heard_kept (drop f.len (bytes ++ given)) (drop f.rest_len (rest ++ left)) all) first
    ∙ ap (λ l. (f.records, take f.len bytes ++ take f.rest_len rest) ∷ l) behind

-- what is kept after a feed
pub record FedMore (old : AllFed) (records : ℕ) (given : List ℕ) (payload : Payload) (bytes : List ℕ) (len : ℕ) (rest : List ℕ) (feeds : List Feed) : Type 0 where
  pub is_fed : IsQueueFed payload bytes len rest feeds
  pub is : fed_kept payload bytes len rest feeds ≡ more_fed old records given

-- so many items, of so many bytes, are what these bytes are to a queue
pub record AreFed (payload : Payload) (given : List ℕ) (n k : ℕ) : Type 0 where
  pub lie : items (item_type payload) given n ≡ Some (items_fed payload given)
  pub fit : AreItems (item_type payload) (items_fed payload given)
  pub size : k ≡ item_size (item_type payload) * n
  pub within : k ≤ length given
  pub few : n ≤ length given

module _ (payload : Payload) (bytes rest : List ℕ) (len : ℕ) (feeds : List Feed) (old : AllFed) (i : IsQueueFed payload bytes len rest feeds) (v : fed_kept payload bytes len rest feeds ≡ old) where
  pub fed_more : (given : List ℕ) (n k records : ℕ) → AreFed payload given n k → FedMore old records given payload (bytes ++ take k given) (len + n) (rest ++ drop k given) (feeds ++ feed_of records (take k given) (drop k given) ∷ [])
  fed_more given n k records fed =
      let e = fed.lie in
      let f = fed.fit in
      let s = fed.size in
      let h = fed.within in
      let g = fed.few in
      let ss = item_type payload in
      let w = item_size ss in
      let new : List ℕ = take k given in
      let left : List ℕ = drop k given in
      let feed = feed_of records new left in
      let size : length new ≡ k = length-take-le k given h in
      let other : length left ≡ length given - k = length-drop k given in
      let both = length-append bytes new in
      let beside = length-append rest left in
      let sizes : w * (len + n) ≡ w * len + w * n = grind arith in
      let lie : Lie ss (bytes ++ new) 0 (len + n) (items_in ss bytes 0 len ++ items_fed payload given) =
      subst (λ j. Lie ss (bytes ++ take j given) 0 (len + n) (items_in ss bytes 0 len ++ items_fed payload given)) (sym s) (lie_more ss bytes given 0 len n (items_fed payload given) (record { lie = i.lie; all = omega (arith, i.all) }) e f (omega (arith, s, h))) in
      let heard : heard_kept (bytes ++ new) (rest ++ left) (feeds ++ feed ∷ []) ≡ heard_kept bytes rest feeds ++ (records, given) ∷ [] =
      heard-more records bytes rest new left feeds i.fed i.others ∙ ap (λ b. heard_kept bytes rest feeds ++ (records, b) ∷ []) (take-append-drop k given) in
      record {
        is_fed = record {
          all = omega (arith, i.all, both, size, sizes, s);
          lie = lie.lie;
          counted = omega (arith, i.counted, both, beside, size, other, g, h);
          fed = omega (arith, i.fed, both, item_bytes-more feeds feed);
          others = omega (arith, i.others, beside, other_bytes-more feeds feed);
        };
        is = rw (lie.is, heard) (ap (λ (a : AllFed). more_fed a records given) v);
      }

-- bytes are the items that they hold
pub all_bytes : (bytes : List ℕ) (count : ℕ) → length bytes ≡ count → items_in byte_type bytes 0 count ≡ byte_items bytes
all_bytes bytes count size = ap listed (items-bytes bytes count (omega (arith, size))) ∙ ap byte_items (take_all count bytes (omega (arith, size)))
