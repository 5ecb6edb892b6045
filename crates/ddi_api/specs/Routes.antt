-- The routes of the device interface, and the method of each.
use Rattle.std.specs.Prelude.{ℕ, List, [], ◌∷◌, codes}
use Rattle.matchit.specs.Rows.{RowsOf}
use Rattle.matchit.specs.Router.{RouteOf}
use Rattle.request_target.specs.Rows.{rows_with}
use Rattle.ddi_api.specs.declared.call.DeviceCall.{DeviceCall}
use Rattle.ddi_api.specs.declared.call.DeviceCall.TheVariants.{Poll, ShowDeployment, Feedback, ShowCancel, CancelFeedback, PutAttributes, Download}

-- a segment in braces is a parameter
abbrev pub device_table : List (List ℕ × DeviceCall)
device_table =
    (codes "/DEFAULT/controller/v1/{controller}", Poll)
    ∷ (codes "/DEFAULT/controller/v1/{controller}/deploymentBase/{action}", ShowDeployment)
    ∷ (codes "/DEFAULT/controller/v1/{controller}/deploymentBase/{action}/feedback", Feedback)
    ∷ (codes "/DEFAULT/controller/v1/{controller}/cancelAction/{action}", ShowCancel)
    ∷ (codes "/DEFAULT/controller/v1/{controller}/cancelAction/{action}/feedback", CancelFeedback)
    ∷ (codes "/DEFAULT/controller/v1/{controller}/configData", PutAttributes)
    ∷ (codes "/DEFAULT/controller/v1/{controller}/softwaremodules/{module}/artifacts/{filename}", Download) ∷ []

-- each call has one method
abbrev pub method_of : DeviceCall → List ℕ
method_of Poll = codes "GET"
method_of ShowDeployment = codes "GET"
method_of Feedback = codes "POST"
method_of ShowCancel = codes "GET"
method_of CancelFeedback = codes "POST"
method_of PutAttributes = codes "PUT"
method_of Download = codes "GET"

-- the router's rows
abbrev pub device_rows : RowsOf (RouteOf DeviceCall)
device_rows = rows_with device_table []
