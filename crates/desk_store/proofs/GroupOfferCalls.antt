-- The write of a group's offers.
use Rattle.desk_store.proofs.Common.{refl, KnowsWrite, PUT_GROUP_OFFERS, HoldsLedger, Actions, Offers, offers_keyed}
use Rattle.desk_records.proofs.GroupOffersMeaning.{put_group_offers_command, put_group_offers_is}

abbrev pub knows_put_group_offers : KnowsWrite HoldsLedger PUT_GROUP_OFFERS.now
knows_put_group_offers = record {
  knows = λ db l holds. record {
    command = put_group_offers_command (holds.spot Offers).at (holds.spot Offers).tree (holds.spot Actions).tree;
    means = put_group_offers_is db.schema (holds.spot Offers).at (holds.spot Offers).tree (holds.spot Actions).at (holds.spot Actions).tree
        (holds.stands Offers) (holds.stands Actions) (offers_keyed db l holds);
  };
  rows = λ db l holds. refl;
}
